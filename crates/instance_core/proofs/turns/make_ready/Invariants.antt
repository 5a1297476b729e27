use Rattle.std.proofs.Common.{◌≡◌, ◌++◌, ℕ, length, map}
use Rattle.blob_pool.specs.Slots.{Slots}
use Rattle.execution.specs.Ordered.{orders_by}
use Rattle.execution.specs.Taking.{steps_shown}
use Rattle.instance_core.specs.Apart.{replies_to}
use Rattle.instance_core.specs.ReplyHolders.{replies_holders}
use Rattle.instance_core.specs.Shown.{reply_shown}
use Rattle.instance_core.specs.Watching.{replies_to_watchers}
use Rattle.instance_core.proofs.turns.make_ready.Given as goal

abbrev pub invariant-loop-left : goal.invariant-loop-left
invariant-loop-left l = record {
  replies : (p : Slots) → map (reply_shown p) l.replies.items ++ replies_to l.only (replies_to_watchers l.calls (steps_shown l.left))
      ≡ replies_to l.only (replies_to_watchers l.calls (steps_shown l.fn.steps.items));
  given : (k : ℕ) → replies_holders l.replies.items k ≡ 0;
  orders : l.orders.items ++ orders_by (steps_shown l.left) ≡ orders_by (steps_shown l.fn.steps.items);
}

abbrev pub decreases-loop-left : goal.decreases-loop-left
decreases-loop-left l = length l.left
