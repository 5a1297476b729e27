use Rattle.std.proofs.Common.{◌≡◌, ◌++◌, length, map}
use Rattle.tree_messages.specs.Results.{output_directory_shown}
use Rattle.outcomes.specs.Completing.{named_tree_shown}
use Rattle.outcomes.proofs.completion.tree_messages.Given as goal

abbrev pub invariant-loop-left : goal.invariant-loop-left
invariant-loop-left l = map output_directory_shown l.messages.items ++ map named_tree_shown l.left ≡ map named_tree_shown l.trees

abbrev pub decreases-loop-left : goal.decreases-loop-left
decreases-loop-left l = length l.left
