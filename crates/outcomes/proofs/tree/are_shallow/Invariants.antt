use Rattle.std.proofs.Common.{◌≡◌, length}
use Rattle.std.specs.List.{list_all}
use Rattle.run_calls.specs.Shown.{nodes_shown}
use Rattle.outcomes.specs.Trees.{is_shallow}
use Rattle.outcomes.proofs.tree.are_shallow.Given as goal

abbrev pub invariant-loop-left : goal.invariant-loop-left
invariant-loop-left l = list_all is_shallow (nodes_shown l.left) ≡ list_all is_shallow (nodes_shown l.nodes)

abbrev pub decreases-loop-left : goal.decreases-loop-left
decreases-loop-left l = length l.left
