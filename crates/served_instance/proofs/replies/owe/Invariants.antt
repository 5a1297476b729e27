use Rattle.std.proofs.Common.{ℕ, ◌≤◌, length}
use Rattle.std.specs.List.{AllByRecursion}
use Rattle.blob_pool.specs.Slots.{Slots, count_at}
use Rattle.conn_core.specs.StandsFor.{ConnectionValue}
use Rattle.instance_core.specs.ReplyHolders.{items_holders}
use Rattle.served_instance.specs.Acts.{Owes}
use Rattle.served_instance.specs.OwedReplies.{CanBeOwed, ItemsEndWithin, TakesRanges, with_owed}
use Rattle.served_instance.proofs.replies.owe.Given as goal

-- what is left is owed behind what was, and its ranges are held
abbrev pub invariant-items : goal.invariant-items
invariant-items l = record {
  owes : (w : ConnectionValue) → Owes (with_owed l.stream l.left.items) l.connection w →
      Owes (with_owed l.stream l.fn.items.items) l.fn.connection w;
  takes : (r : Slots) (w : ConnectionValue) → TakesRanges (items_holders l.left.items)
      (ItemsEndWithin l.left.items) l.pool l.connection r w →
      TakesRanges (items_holders l.fn.items.items) (ItemsEndWithin l.fn.items.items) l.fn.pool l.fn.connection r w;
  counted : (k : ℕ) → items_holders l.left.items k ≤ count_at l.pool k;
  owed : AllByRecursion CanBeOwed l.left.items;
}

abbrev pub decreases-items : goal.decreases-items
decreases-items l = length l.left.items
