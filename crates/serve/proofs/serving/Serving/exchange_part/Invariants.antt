use Rattle.std.proofs.Common.{◌≡◌, ◌-◌}
use Rattle.serve.specs.KeepsOpen.{ServesOn}
use Rattle.serve.proofs.serving.Serving.exchange_part.Given as goal

abbrev pub invariant-loop-at : goal.invariant-loop-at
invariant-loop-at g l = record {
  serves_on : ServesOn l.fn.self (g.S.Sockets.happened l.fn.sockets) (g.R.Runs.happened l.fn.runs)
      l.self (g.S.Sockets.happened l.sockets) (g.R.Runs.happened l.runs);
  no_fault : g.R.Runs.faulted l.runs ≡ g.R.Runs.faulted l.fn.runs;
  moment : l.self.moment ≡ l.fn.self.moment;
}

abbrev pub decreases-loop-at : goal.decreases-loop-at
decreases-loop-at g l = l.self.connections.len - l.at
