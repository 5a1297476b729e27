use Rattle.std.proofs.Common.{◌≡◌, ◌++◌, length, map}
use Rattle.tree_messages.specs.Directories.{directory_shown}
use Rattle.outcomes.specs.Gathering.{folder_shown}
use Rattle.outcomes.proofs.tree.child_messages.Given as goal

abbrev pub invariant-loop-left : goal.invariant-loop-left
invariant-loop-left l = map directory_shown l.messages.items ++ map folder_shown l.left ≡ map folder_shown l.children

abbrev pub decreases-loop-left : goal.decreases-loop-left
decreases-loop-left l = length l.left
