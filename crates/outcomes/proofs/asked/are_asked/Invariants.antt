use Rattle.std.proofs.Common.{◌≡◌, length, map}
use Rattle.outcomes.specs.Asked.{are_asked}
use Rattle.actions.specs.Shown.{asked_shown}
use Rattle.run_calls.specs.Shown.{output_shown}
use Rattle.outcomes.proofs.asked.are_asked.Given as goal

abbrev pub invariant-loop-left : goal.invariant-loop-left
invariant-loop-left l =
    are_asked (map asked_shown l.asked_left) (map output_shown l.left)
    ≡ are_asked (map asked_shown l.asked) (map output_shown l.outputs)

abbrev pub decreases-loop-left : goal.decreases-loop-left
decreases-loop-left l = length l.asked_left
