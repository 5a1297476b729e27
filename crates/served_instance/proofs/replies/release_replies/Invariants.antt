use Rattle.std.proofs.Common.{ℕ, ◌≤◌, length}
use Rattle.blob_pool.specs.Slots.{Slots, count_at}
use Rattle.blob_pool.specs.Moves.{Moves, no_holders}
use Rattle.instance_core.specs.ReplyHolders.{replies_holders}
use Rattle.served_instance.proofs.replies.release_replies.Given as goal

abbrev pub invariant-replies : goal.invariant-replies
invariant-replies l = record {
  moves : (r : Slots) → Moves l.pool r (replies_holders l.left.items) no_holders →
      Moves l.fn.pool r (replies_holders l.fn.replies.items) no_holders;
  counted : (k : ℕ) → replies_holders l.left.items k ≤ count_at l.pool k;
}

abbrev pub decreases-replies : goal.decreases-replies
decreases-replies l = length l.left.items
