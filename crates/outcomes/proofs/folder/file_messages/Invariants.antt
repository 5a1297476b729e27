use Rattle.std.proofs.Common.{◌≡◌, ◌++◌, length, map}
use Rattle.tree_messages.specs.Directories.{file_node_shown}
use Rattle.outcomes.specs.Gathering.{named_file_shown}
use Rattle.outcomes.proofs.folder.file_messages.Given as goal

abbrev pub invariant-loop-left : goal.invariant-loop-left
invariant-loop-left l = map file_node_shown l.nodes.items ++ map named_file_shown l.left ≡ map named_file_shown l.files

abbrev pub decreases-loop-left : goal.decreases-loop-left
decreases-loop-left l = length l.left
