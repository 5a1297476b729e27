use Rattle.std.proofs.Common.{◌≡◌, ◌+◌, length}
use Rattle.blob_pool.specs.Slots.{Slots}
use Rattle.instance_view.specs.Shown.{visible_in}
use Rattle.outcomes.specs.Fresh.{fresh_sum}
use Rattle.outcomes.proofs.quota.are_over.Given as goal

abbrev pub invariant-loop-left : goal.invariant-loop-left
invariant-loop-left l = (p : Slots) → l.room + fresh_sum (visible_in p l.view) l.digests ≡ l.quota + fresh_sum (visible_in p l.view) l.left

abbrev pub decreases-loop-left : goal.decreases-loop-left
decreases-loop-left l = length l.left
