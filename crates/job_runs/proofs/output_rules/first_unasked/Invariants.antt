use Rattle.std.proofs.Common.{◌≡◌, length, map}
use Rattle.actions.specs.Shown.{asked_shown}
use Rattle.run_calls.specs.Shown.{output_shown}
use Rattle.job_runs.specs.OutputRules.{first_unasked}
use Rattle.job_runs.proofs.output_rules.first_unasked.Given as goal

abbrev pub invariant-loop-left : goal.invariant-loop-left
invariant-loop-left l =
    first_unasked (map asked_shown l.asked_left) (map output_shown l.left)
    ≡ first_unasked (map asked_shown l.asked) (map output_shown l.outputs)

abbrev pub decreases-loop-left : goal.decreases-loop-left
decreases-loop-left l = length l.asked_left
