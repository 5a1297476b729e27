use Rattle.std.proofs.Common.{◌≡◌, ◌++◌, length}
use Rattle.std.specs.List.{filter_map}
use Rattle.actions.specs.Shown.{nodes_shown}
use Rattle.actions.specs.Walk.{digest_of_node}
use Rattle.execution.specs.Preparing.{met}
use Rattle.execution.specs.Shown.{prepared_shown}
use Rattle.execution.proofs.making.digests_met.Given as goal

abbrev pub invariant-loop-left : goal.invariant-loop-left
invariant-loop-left l = l.digests.items ++ filter_map digest_of_node (nodes_shown l.left) ≡ met l.action (prepared_shown l.prepared)

abbrev pub decreases-loop-left : goal.decreases-loop-left
decreases-loop-left l = length l.left
