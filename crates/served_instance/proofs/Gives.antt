-- What replies owe, one after another.
use Rattle.std.proofs.Common.{◌≡◌, refl, sym, ap, ◌∙◌, subst}
use Rattle.std.specs.Prelude.{ℕ, List, [], ◌∷◌, length, map, Result, Ok, Err, OnOk}
use Rattle.blob_pool.specs.Slots.{Slots}
use Rattle.instance_core.specs.Apart.{AreRepliesTo}
use Rattle.instance_core.specs.ReplyHolders.{replies_holders}
use Rattle.served_instance.specs.Cuts.{KeepsOthers}
use Rattle.served_instance.specs.Present.{StayInPlace}
use Rattle.grpc_sending.specs.StoredSending.{SourceTexts}
use Rattle.conn_core.specs.Past.{Past, with_item}
use Rattle.conn_core.specs.StandsFor.{ConnectionValue, Becomes, OwesRange}
use Rattle.instance_core.specs.declared.event.GivenRange.{GivenRange}
use Rattle.instance_core.specs.declared.event.Reply.{Reply}
use Rattle.instance_core.specs.declared.event.ReplyItem.{ReplyItem}
use Rattle.instance_core.specs.declared.event.ReplyItem.TheVariants.{Gives}
use Rattle.served_instance.specs.declared.open_connection.OpenConnection.{OpenConnection}
use Rattle.served_instance.specs.Connections.{open_ones, at_open}
use Rattle.served_instance.specs.Calls.{item_of}
use Rattle.served_instance.specs.OwedReplies.{item_by, reply_by, with_owed, AllTakeRanges, RepliesEndWithin}
use Rattle.served_instance.specs.Lone.{LoneInstance, after_replies}
use Rattle.served_instance.specs.StandsFor.{AreServed}
use Rattle.served_instance.specs.Shown.{connection_shown}
use Rattle.served_instance.specs.Acts.{BecomesAt, SendsMore, Owes, Keeps, without_sending}
use Rattle.served_instance.proofs.Changes.{changed_serves, changed_keeps}

-- ---- one response

pub owes_by : {T E : Type 0} (r : Result T E) (step : Past → Past) (v w : ConnectionValue) → OnOk r (Becomes v step w) → SendsMore v w →
    OnOk r (Owes (λ texts. step) v w)
owes_by (Ok x) step v w h rest = record { taken = h; rest = rest }
owes_by (Err e) step v w h rest = tt

-- what is known of the item
pub owes_item : {T E : Type 0} (r : Result T E) (s : ℕ) (item it : ReplyItem) (v w : ConnectionValue) → item ≡ it →
    OnOk r (Owes (λ texts p. with_item p s (item_of (item_by texts it))) v w) →
    OnOk r (Owes (λ texts p. with_item p s (item_of (item_by texts item))) v w)
owes_item r s item it v w is h = subst (λ (x : ReplyItem). OnOk r (Owes (λ texts p. with_item p s (item_of (item_by texts x))) v w))
    (sym is) h

sends_trans : (v a b : ConnectionValue) → SendsMore v a → SendsMore a b → SendsMore v b
sends_trans v a b x y = y ∙ ap (λ (z : ConnectionValue). let r : ConnectionValue = record z { sending = b.sending } in r) x

-- an item, and then those behind it
owes_both : (s : ℕ) (rest : List ReplyItem) (item : ReplyItem) (v a w : ConnectionValue) →
    Owes (λ texts p. with_item p s (item_of (item_by texts item))) v a → Owes (with_owed s rest) a w → Owes (with_owed s (item ∷ rest)) v w
owes_both s rest item v a w x y = record {
  taken = λ texts p h. y.taken texts (with_item p s (item_of (item_by texts item))) (x.taken texts p h);
  rest = sends_trans v a w x.rest y.rest;
}

pub owes_more : (s : ℕ) (items rest : List ReplyItem) (item : ReplyItem) (v a w : ConnectionValue) → items ≡ item ∷ rest →
    Owes (λ texts p. with_item p s (item_of (item_by texts item))) v a →
    Owes (with_owed s rest) a w → Owes (with_owed s items) v w
owes_more s items rest item v a w is x y = subst (λ (xs : List ReplyItem). Owes (with_owed s xs) v w) (sym is)
    (owes_both s rest item v a w x y)

owes_nothing : (s : ℕ) (v : ConnectionValue) → Owes (with_owed s []) v v
owes_nothing s v = record { taken = λ texts p h. h; rest = refl }

pub owes_none : (s : ℕ) (items : List ReplyItem) (v : ConnectionValue) → items ≡ [] → Owes (with_owed s items) v v
owes_none s items v is = subst (λ (xs : List ReplyItem). Owes (with_owed s xs) v v) (sym is) (owes_nothing s v)

-- a range, where the texts are looked up
pub owes_range : {T E : Type 0} (r : Result T E) (s : ℕ) (range : GivenRange) (v w : ConnectionValue) →
    OnOk r (OwesRange s range.text range.from range.until v w) → SendsMore v w →
    OnOk r (Owes (λ texts p. with_item p s (item_of (item_by texts (Gives range)))) v w)
owes_range (Ok x) s range v w h rest = record { taken = λ texts p st. h texts range.digest p st; rest = rest }
owes_range (Err e) s range v w h rest = tt

-- ---- all of them

-- these replies are given
abbrev pub AreGiven : List Reply → List OpenConnection → List OpenConnection → Type 0
AreGiven rs os ns = (texts : SourceTexts) (l : LoneInstance) → AreServed texts (map connection_shown os) (open_ones l.connections) →
    AreServed texts (map connection_shown ns) (open_ones (after_replies (map (reply_by texts) rs) l).connections)

-- a reply, and then those behind it
give_both : (r : Reply) (rest : List Reply) (os ns xs : List OpenConnection) →
    BecomesAt r.call.connection os ns (Owes (with_owed r.call.stream r.items.items)) → AreGiven rest ns xs → AreGiven (r ∷ rest) os xs
give_both r rest os ns xs e h = λ texts l s.
    let step = with_owed r.call.stream r.items.items in
    let k : LoneInstance = record l { connections = at_open r.call.connection (step texts) l.connections } in
    h texts k (changed_serves texts r.call.connection os ns (Owes step) (step texts) l.connections e s (λ v w p o f g. o.taken texts p g))

pub give_more : (rs rest : List Reply) (r : Reply) (os ns xs : List OpenConnection) → rs ≡ r ∷ rest →
    BecomesAt r.call.connection os ns (Owes (with_owed r.call.stream r.items.items)) → AreGiven rest ns xs → AreGiven rs os xs
give_more rs rest r os ns xs is e h = subst (λ (ys : List Reply). AreGiven ys os xs) (sym is) (give_both r rest os ns xs e h)

pub give_keeps : (c : ℕ) (step : SourceTexts → Past → Past) (os ns : List OpenConnection) → BecomesAt c os ns (Owes step) → Keeps os ns
give_keeps c step os ns e = λ d. changed_keeps without_sending c d os ns (Owes step) e (λ v w o. ap without_sending o.rest)

pub keeps_trans : (os ns xs : List OpenConnection) → Keeps os ns → Keeps ns xs → Keeps os xs
keeps_trans os ns xs h k = λ d. k d ∙ h d

-- ---- what became of all replies

pub record HaveGiven {T E : Type 0} (r : Result T E) (rs : List Reply) (p q : Slots) (os ns : List OpenConnection) : Type 0 where
  pub given : OnOk r (AreGiven rs os ns)
  pub rest : OnOk r (Keeps os ns)
  pub others : (c : ℕ) → AreRepliesTo c rs → KeepsOthers c os ns
  pub places : StayInPlace os ns
  pub takes : AllTakeRanges (replies_holders rs) (RepliesEndWithin rs) p (map connection_shown os) q (map connection_shown ns)
  pub count : length ns ≡ length os
