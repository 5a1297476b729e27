use Rattle.std.proofs.Common.{◌≡◌, ℕ, ◌∷◌, ◌++◌, map, length}
use Rattle.std.specs.Vec.Iter.{into_iter_items, into_iter_len}
use Rattle.blob_pool.specs.Slots.{Slots}
use Rattle.instance_core.specs.Replies.{begins, says}
use Rattle.instance_core.specs.Shown.{item_shown}
use Rattle.instance_core.specs.ReplyHolders.{items_holders}
use Rattle.instance_core.proofs.replies.items_of_messages.Given as goal

abbrev pub invariant-messages : goal.invariant-messages
invariant-messages l = (l.yielded ++ into_iter_items l.message-iterator ≡ into_iter_items l.initial.message-iterator)
    × ((p : Slots) → map (item_shown p) l.items.items ≡ begins ∷ map says (map (λ m. m.items) l.yielded))
    × ((k : ℕ) → items_holders l.items.items k ≡ 0)
    × (into_iter_len l.message-iterator ≡ length (into_iter_items l.message-iterator))
