use Rattle.std.proofs.Common.{◌≡◌, ◌++◌, length, map}
use Rattle.tree_messages.specs.Results.{output_file_shown}
use Rattle.outcomes.specs.Completing.{named_output_shown}
use Rattle.outcomes.proofs.completion.file_messages.Given as goal

abbrev pub invariant-loop-left : goal.invariant-loop-left
invariant-loop-left l = map output_file_shown l.messages.items ++ map named_output_shown l.left ≡ map named_output_shown l.files

abbrev pub decreases-loop-left : goal.decreases-loop-left
decreases-loop-left l = length l.left
