use Rattle.std.proofs.Common.{◌≡◌, ◌++◌, length, map}
use Rattle.run_calls.specs.Shown.{output_shown}
use Rattle.logs.proofs.run_copies.two_output_lists.Given as goal

abbrev pub invariant-loop-output : goal.invariant-loop-output
invariant-loop-output l =
    (map output_shown l.ones.items ++ map output_shown l.left.items ≡ map output_shown l.fn.outputs.items)
    × (map output_shown l.others.items ++ map output_shown l.left.items ≡ map output_shown l.fn.outputs.items)

abbrev pub decreases-loop-output : goal.decreases-loop-output
decreases-loop-output l = length l.left.items
