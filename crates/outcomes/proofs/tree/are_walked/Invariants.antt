use Rattle.std.proofs.Common.{◌≡◌, length}
use Rattle.run_calls.specs.Shown.{nodes_shown}
use Rattle.outcomes.specs.Trees.{are_walked}
use Rattle.outcomes.proofs.tree.are_walked.Given as goal

abbrev pub invariant-loop-left : goal.invariant-loop-left
invariant-loop-left l = are_walked l.last (nodes_shown l.left) ≡ are_walked 1 (nodes_shown l.nodes)

abbrev pub decreases-loop-left : goal.decreases-loop-left
decreases-loop-left l = length l.left
