-- How often what is given holds each slot of a pool: once for each range of the slot's text.
use Rattle.std.specs.Prelude.{◌+◌, List, [], ◌∷◌, Result, Ok, Err}
use Rattle.std.specs.declared.alloc.AllocError.{AllocError}
use Rattle.std.specs.declared.alloc.Global.{Global}
use Rattle.std.specs.declared.vec.Vec.{Vec}
use Rattle.blob_pool.specs.Moves.{Holders, one_at}
use Rattle.instance_core.specs.declared.event.Reply.{Reply}
use Rattle.instance_core.specs.declared.event.ReplyItem.{ReplyItem}
use Rattle.instance_core.specs.declared.event.ReplyItem.TheVariants.{Gives}

abbrev pub item_holders : ReplyItem → Holders
item_holders (Gives range) k = one_at range.text k
item_holders item k = 0

abbrev pub items_holders : List ReplyItem → Holders
items_holders [] k = 0
items_holders (i ∷ is) k = item_holders i k + items_holders is k

abbrev pub replies_holders : List Reply → Holders
replies_holders [] k = 0
replies_holders (r ∷ rs) k = items_holders r.items.items k + replies_holders rs k

-- nothing is given for want of memory
abbrev pub result_holders : Result (Vec Reply Global) AllocError → Holders
result_holders (Ok replies) k = replies_holders replies.items k
result_holders (Err e) k = 0
