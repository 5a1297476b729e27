use Rattle.std.proofs.Common.{◌≡◌, ◌≤◌, ◌-◌, ◌++◌, ℕ, drop, length, map}
use Rattle.blob_pool.specs.Slots.{Slots}
use Rattle.execution.specs.Ordered.{told_shown}
use Rattle.instance_core.specs.Apart.{replies_to}
use Rattle.instance_core.specs.ReplyHolders.{replies_holders}
use Rattle.instance_core.specs.Shown.{reply_shown}
use Rattle.instance_core.specs.Watching.{replies_told}
use Rattle.instance_core.proofs.turns.tell_watchers.Given as goal

abbrev pub invariant-loop-id : goal.invariant-loop-id
invariant-loop-id l = record {
  replies : (p : Slots) → map (reply_shown p) l.replies.items ++ replies_to l.only (replies_told (drop l.place l.calls) (told_shown l.told))
      ≡ map (reply_shown p) l.fn.replies.items ++ replies_to l.only (replies_told l.calls (told_shown l.told));
  given : (k : ℕ) → replies_holders l.replies.items k ≡ replies_holders l.fn.replies.items k;
  within : l.place ≤ length l.calls;
}

abbrev pub decreases-loop-id : goal.decreases-loop-id
decreases-loop-id l = length l.calls - l.place
