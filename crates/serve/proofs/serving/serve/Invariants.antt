use Rattle.std.proofs.Common.{◌≡◌, length}
use Rattle.serve.specs.KeepsOpen.{HasAllOpen}
use Rattle.serve.specs.FaultLines.{WritesLines}
use Rattle.serve.specs.KeepsServing.{IsServing}
use Rattle.serve.proofs.serving.serve.Given as goal

abbrev pub invariant-loop : goal.invariant-loop
invariant-loop g l = record {
  serving : IsServing l.configs (g.S.Sockets.happened l.sockets) (g.R.Runs.happened l.runs) l.serving.counting l.serving.moment;
  instances : l.serving.instances ≡ length l.configs;
  lines : WritesLines l.configs (g.R.Runs.faulted l.fn.runs) (g.R.Runs.faulted l.runs)
      (g.E.Write.contents l.fn.errors.output) l.fn.errors.backlog (g.E.Write.contents l.errors.output) l.errors.backlog;
  opened : HasAllOpen l.serving (g.S.Sockets.happened l.sockets);
}
