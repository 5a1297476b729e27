use Rattle.std.proofs.Common.{◌≡◌}
use Rattle.serve.specs.KeepsOpen.{ServesOn}
use Rattle.serve.proofs.serving.Serving.open_all.Given as goal

abbrev pub invariant-loop-instance : goal.invariant-loop-instance
invariant-loop-instance g l = record {
  serves_on : ServesOn l.fn.self (g.S.Sockets.happened l.fn.sockets) (g.R.Runs.happened l.fn.runs)
      l.self (g.S.Sockets.happened l.sockets) (g.R.Runs.happened l.runs);
  no_fault : g.R.Runs.faulted l.runs ≡ g.R.Runs.faulted l.fn.runs;
}
