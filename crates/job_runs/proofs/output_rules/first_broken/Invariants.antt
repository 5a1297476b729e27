use Rattle.std.proofs.Common.{◌≡◌, length, map}
use Rattle.run_calls.specs.Shown.{output_shown}
use Rattle.job_runs.specs.OutputRules.{first_broken}
use Rattle.job_runs.proofs.output_rules.first_broken.Given as goal

abbrev pub invariant-loop-left : goal.invariant-loop-left
invariant-loop-left l =
    first_broken (map output_shown l.left) ≡ first_broken (map output_shown l.outputs)

abbrev pub decreases-loop-left : goal.decreases-loop-left
decreases-loop-left l = length l.left
