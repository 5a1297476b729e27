use Rattle.std.proofs.Common.{ℕ, List}
use Rattle.std.specs.Prelude.{Option}
use Rattle.serve.specs.FaultLines.{WritesLinesAt}
use Rattle.serve.specs.KeepsServing.{KeepsServing}
use Rattle.serve.specs.SocketEvents.{SocketEvent}
use Rattle.serve.proofs.asking.ask_all.Given as goal

abbrev pub invariant-loop : goal.invariant-loop
invariant-loop g l = record {
  serving : (count : ℕ) (known : Option (List SocketEvent)) → KeepsServing count
      known (g.R.Runs.happened l.fn.runs) l.fn.counting l.moment
      known (g.R.Runs.happened l.runs) l.counting l.moment;
  lines : WritesLinesAt l.moment l.configs (g.R.Runs.faulted l.fn.runs) (g.R.Runs.faulted l.runs)
      (g.E.Write.contents l.fn.errors.output) l.fn.errors.backlog (g.E.Write.contents l.errors.output) l.errors.backlog;
}
