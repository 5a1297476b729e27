use Rattle.std.proofs.Common.{length}
use Rattle.logs.specs.LoggedRuns.{run_events}
use Rattle.serve.specs.RunEvents.{IsBegun}
use Rattle.logs.proofs.logged_runs.has_begun.Given as goal

abbrev pub invariant-loop-left : goal.invariant-loop-left
invariant-loop-left l = IsBegun l.run (run_events l.left) → IsBegun l.run (run_events l.records)

abbrev pub decreases-loop-left : goal.decreases-loop-left
decreases-loop-left l = length l.left
