-- Replies of one call, and what they hold.
use Rattle.std.proofs.Common.{◌≡◌, ℕ, List, map, Result, Ok, Err, refl, subst, ◌∙◌}
use Rattle.std.specs.Prelude.{OnOk}
use Rattle.std.specs.declared.alloc.Global.{Global}
use Rattle.std.specs.declared.alloc.AllocError.{AllocError}
use Rattle.std.specs.declared.vec.Vec.{Vec}
use Rattle.blob_pool.specs.Slots.{Slots}
use Rattle.instance_core.specs.declared.event.CallId.{CallId}
use Rattle.instance_core.specs.declared.event.Reply.{Reply}
use Rattle.instance_core.specs.declared.event.ReplyItem.{ReplyItem}
use Rattle.instance_core.specs.Replies.{ReplyItemValue}
use Rattle.instance_core.specs.Answer.{reply_of_items}
use Rattle.instance_core.specs.Shown.{Gives, item_shown}
use Rattle.instance_core.specs.ReplyHolders.{items_holders, result_holders}

pub items_given : (p : Slots) (r : Result (Vec Reply Global) AllocError) (call : CallId) (items : List ReplyItem)
    (shown : List ReplyItemValue)
    → map (item_shown p) items ≡ shown → Gives p r (reply_of_items call (map (item_shown p) items)) → Gives p r (reply_of_items call shown)
items_given p r call items shown is given = subst (λ (xs : List ReplyItemValue). Gives p r (reply_of_items call xs)) is given

pub items_held : (r : Result (Vec Reply Global) AllocError) (items : List ReplyItem) (k n : ℕ) → items_holders items k ≡ n →
    OnOk r (result_holders r k ≡ items_holders items k) → OnOk r (result_holders r k ≡ n)
items_held (Ok replies) items k n is held = held ∙ is
items_held (Err e) items k n is held = tt

pub nothing_held : (r : Result (Vec Reply Global) AllocError) (items : List ReplyItem) (k : ℕ) → items_holders items k ≡ 0 →
    OnOk r (result_holders r k ≡ items_holders items k) → result_holders r k ≡ 0
nothing_held (Ok replies) items k is held = held ∙ is
nothing_held (Err e) items k is held = refl
