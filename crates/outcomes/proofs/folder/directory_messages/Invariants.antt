use Rattle.std.proofs.Common.{◌≡◌, ◌++◌, length, map}
use Rattle.tree_messages.specs.Directories.{directory_node_shown}
use Rattle.outcomes.specs.Gathering.{named_directory_shown}
use Rattle.outcomes.proofs.folder.directory_messages.Given as goal

abbrev pub invariant-loop-left : goal.invariant-loop-left
invariant-loop-left l = map directory_node_shown l.nodes.items ++ map named_directory_shown l.left ≡ map named_directory_shown l.directories

abbrev pub decreases-loop-left : goal.decreases-loop-left
decreases-loop-left l = length l.left
