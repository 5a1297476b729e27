use Rattle.std.proofs.Common.{◌≡◌, length}
use Rattle.execution_messages.specs.Statuses.{distinct, with_all_distinct}
use Rattle.execution_messages.proofs.status.distinct.Given as goal

abbrev pub invariant-loop-left : goal.invariant-loop-left
invariant-loop-left l =
    (l.seen.keys ≡ l.found.items) × (with_all_distinct l.found.items l.left ≡ distinct l.digests)

abbrev pub decreases-loop-left : goal.decreases-loop-left
decreases-loop-left l = length l.left
