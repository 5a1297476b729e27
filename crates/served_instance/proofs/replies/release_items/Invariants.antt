use Rattle.std.proofs.Common.{ℕ, ◌≤◌, length}
use Rattle.blob_pool.specs.Slots.{Slots, count_at}
use Rattle.blob_pool.specs.Moves.{Moves, no_holders}
use Rattle.instance_core.specs.ReplyHolders.{items_holders}
use Rattle.served_instance.proofs.replies.release_items.Given as goal

abbrev pub invariant-items : goal.invariant-items
invariant-items l = record {
  moves : (r : Slots) → Moves l.pool r (items_holders l.left.items) no_holders →
      Moves l.fn.pool r (items_holders l.fn.items.items) no_holders;
  counted : (k : ℕ) → items_holders l.left.items k ≤ count_at l.pool k;
}

abbrev pub decreases-items : goal.decreases-items
decreases-items l = length l.left.items
