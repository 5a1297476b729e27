-- What is said to those who watch jobs is owed to their streams, where these are open.
use Rattle.std.proofs.Common.{◌≡◌, ℕ, List, [], ◌∷◌, ◌++◌, refl, ap, ◌∙◌, sym, subst, append_assoc, inl, inr}
use Rattle.std.specs.Prelude.{Bool, true, false, cond, not, ◌&&◌, ◌==◌, Option, Some, None}
use Rattle.std.specs.List.{flat_map, list_any}
use Rattle.std.specs.Option.{option_map_or}
use Rattle.std.proofs.lemmas.Bool.{cases_Bool}
use Rattle.conn_core.specs.History.{Entry, has_failed, live_streams}
use Rattle.grpc_sending.specs.Owed.{OwedItem, Item, items_owed_on, owed_with_item}
use Rattle.grpc_sending.proofs.Histories.{append-nil}
use Rattle.conn_core.specs.Past.{Past, with_item}
use Rattle.instance_core.specs.declared.event.CallId.{CallId}
use Rattle.instance_core.specs.Replies.{ReplyValue}
use Rattle.served_instance.specs.Connections.{LoneConnection, is_open_at, open_at, at_open}
use Rattle.served_instance.specs.Calls.{owed_items, with_items}
use Rattle.served_instance.specs.Lone.{LoneInstance, after_replies}
use Rattle.client_reading.specs.Answerable.{IsAnswerableStream}
use Rattle.run_reading.specs.Happenings.{connection_place, is_stream_open, is_open_call, place_of_call}
use Rattle.run_reading.specs.Replies.{GivenItems, items_at_place}
use Rattle.run_reading.proofs.Owes.{same_place}
use Rattle.run_reading.proofs.Calls.{items_history, gives_items, Owes, owes_step}

-- ---- a stream that is closed is owed nothing

none_owed : (d : List Entry) (os : List OwedItem) (s : ℕ) (item : Item) →
    (not (has_failed d) && list_any (λ t. t == s) (live_streams d)) ≡ false → owed_with_item d os s item ≡ os
none_owed d os s item h = elim (cases_Bool (has_failed d)) [
  | inl failed ↦ rw failed refl
  | inr fine ↦
      let closed : list_any (λ t. t == s) (live_streams d) ≡ false = rw fine at h in
      rw fine (rw closed refl)
]

pub closed_keeps : (s : ℕ) (items : List Item) (p : Past) → is_stream_open s p ≡ false → (with_items s items p).owed ≡ p.owed
closed_keeps s [] p h = refl
closed_keeps s (item ∷ items) p h = closed_keeps s items (with_item p s item) h ∙ none_owed p.history p.owed s item h

pub answerable : (s : ℕ) (p : Past) → is_stream_open s p ≡ true → IsAnswerableStream p.history s
answerable s p h = elim (cases_Bool (has_failed p.history)) [
  | inl failed ↦ let h' : false ≡ true = rw failed at h in cc
  | inr fine ↦
      let live : list_any (λ t. t == s) (live_streams p.history) ≡ true = rw fine at h in
      (fine, live)
]

-- ---- which streams are open stays

open_kept : (s t : ℕ) (items : List Item) (p : Past) → is_stream_open s (with_items t items p) ≡ is_stream_open s p
open_kept s t items p = ap (λ (d : List Entry). not (has_failed d) && list_any (λ u. u == s) (live_streams d)) (items_history t items p)

same_open : (c d s t : ℕ) (items : List Item) (ks : List LoneConnection) →
    option_map_or (is_stream_open s) (open_at d (at_open c (with_items t items) ks)) false
    ≡ option_map_or (is_stream_open s) (open_at d ks) false
same_open c d s t items [] = refl
same_open c d s t items (k ∷ ks) = elim (cases_Bool (is_open_at c k)) [
  | inl here ↦ rw here (head_open (is_open_at d k))
  | inr other ↦ rw other (tail_open (is_open_at d k) (same_open c d s t items ks))
] where
  head_open : (b : Bool) → option_map_or (is_stream_open s) (cond b (Some (with_items t items k.past)) (open_at d ks)) false
      ≡ option_map_or (is_stream_open s) (cond b (Some k.past) (open_at d ks)) false
  head_open true = open_kept s t items k.past
  head_open false = refl

  tail_open : (b : Bool) → option_map_or (is_stream_open s) (open_at d (at_open c (with_items t items) ks)) false
      ≡ option_map_or (is_stream_open s) (open_at d ks) false
      → option_map_or (is_stream_open s) (cond b (Some k.past) (open_at d (at_open c (with_items t items) ks))) false
      ≡ option_map_or (is_stream_open s) (cond b (Some k.past) (open_at d ks)) false
  tail_open true ih = refl
  tail_open false ih = ih

abbrev no_place : Option ℕ
no_place = None

place_kept : (c t : ℕ) (items : List Item) (ks : List LoneConnection) (id : CallId) →
    place_of_call (at_open c (with_items t items) ks) id ≡ place_of_call ks id
place_kept c t items ks id =
    ap (λ b. cond b (Some (connection_place id.connection (at_open c (with_items t items) ks))) no_place)
    (same_open c id.connection id.stream t items ks)
    ∙ ap (λ n. cond (is_open_call ks id) (Some n) no_place) (same_place id.connection c (with_items t items) ks)

-- ---- replies, each to a call of its own

abbrev pub turn_given : (CallId → Option ℕ) → List ReplyValue → List GivenItems
turn_given places rs = flat_map (λ (r : ReplyValue). items_at_place (places r.call) r) rs

same_given : (f g : CallId → Option ℕ) (rs : List ReplyValue) → ((id : CallId) → f id ≡ g id) → turn_given f rs ≡ turn_given g rs
same_given f g [] same = refl
same_given f g (r ∷ rs) same =
    ap (λ (o : Option ℕ). items_at_place o r ++ turn_given f rs) (same r.call)
    ∙ ap (λ (gs : List GivenItems). items_at_place (g r.call) r ++ gs) (same_given f g rs same)

none_there : (c : ℕ) (step : Past → Past) (ks : List LoneConnection) → open_at c ks ≡ None → at_open c step ks ≡ ks
none_there c step [] is = refl
none_there c step (k ∷ ks) is = elim (cases_Bool (is_open_at c k)) [
  | inl here ↦ let is' : Some k.past ≡ None = rw here at is in cc
  | inr other ↦ let is' : open_at c ks ≡ None = rw other at is in
      rw other (ap (λ (js : List LoneConnection). k ∷ js) (none_there c step ks is'))
]

abbrev after_reply : ReplyValue → LoneInstance → LoneInstance
after_reply r l = record l { connections = at_open r.call.connection (with_items r.call.stream (owed_items r.items)) l.connections }

none_given : (r : ReplyValue) (l : LoneInstance) (gs : List GivenItems) → is_open_call l.connections r.call ≡ false →
    Owes gs (after_reply r l) → Owes (gs ++ items_at_place (place_of_call l.connections r.call) r) (after_reply r l)
none_given r l gs closed h =
    let none : place_of_call l.connections r.call ≡ None = rw closed refl in
    let given : gs ++ items_at_place (place_of_call l.connections r.call) r ≡ gs =
    ap (λ (o : Option ℕ). gs ++ items_at_place o r) none ∙ append-nil gs in
    subst (λ (xs : List GivenItems). Owes xs (after_reply r l)) (sym given) h

reply_owes : (r : ReplyValue) (l : LoneInstance) (gs : List GivenItems) → Owes gs l →
    Owes (gs ++ items_at_place (place_of_call l.connections r.call) r) (after_reply r l)
reply_owes r l gs h = found (open_at c l.connections) refl where
  c : ℕ
  c = r.call.connection

  s : ℕ
  s = r.call.stream

  items : List Item
  items = owed_items r.items

  by_past : (p : Past) (b : Bool) → open_at c l.connections ≡ Some p → is_stream_open s p ≡ b →
      Owes (gs ++ items_at_place (place_of_call l.connections r.call) r) (after_reply r l)
  by_past p true is here =
      let open' : is_open_call l.connections r.call ≡ true = ap (λ (o : Option Past). option_map_or (is_stream_open s) o false) is ∙ here in
      let place : place_of_call l.connections r.call ≡ Some (connection_place c l.connections) = rw open' refl in
      let given : items_at_place (place_of_call l.connections r.call) r ≡ items_at_place (Some (connection_place c l.connections)) r =
      ap (λ (o : Option ℕ). items_at_place o r) place in
      subst (λ (xs : List GivenItems). Owes (gs ++ xs) (after_reply r l)) (sym given)
      (owes_step c (with_items s items) gs ((s, items) ∷ []) l p is (gives_items s items p (answerable s p here)) h)
  by_past p false is closed =
      let closed' : is_open_call l.connections r.call ≡ false =
      ap (λ (o : Option Past). option_map_or (is_stream_open s) o false) is ∙ closed in
      let nothing = owes_step c (with_items s items) gs [] l p is
      (λ t. ap (λ (os : List OwedItem). items_owed_on t os) (closed_keeps s items p closed) ∙ sym (append-nil (items_owed_on t p.owed)))
      h in
      none_given r l gs closed' (subst (λ (xs : List GivenItems). Owes xs (after_reply r l)) (append-nil gs) nothing)

  found : (o : Option Past) → open_at c l.connections ≡ o →
      Owes (gs ++ items_at_place (place_of_call l.connections r.call) r) (after_reply r l)
  found None is =
      let closed : is_open_call l.connections r.call ≡ false = ap (λ (o : Option Past). option_map_or (is_stream_open s) o false) is in
      let same : at_open c (with_items s items) l.connections ≡ l.connections = none_there c (with_items s items) l.connections is in
      none_given r l gs closed (subst (λ (ks : List LoneConnection). Owes gs (record l { connections = ks })) (sym same) h)
  found (Some p) is = by_past p (is_stream_open s p) is refl

pub turn_owes : (rs : List ReplyValue) (l : LoneInstance) (gs : List GivenItems) → Owes gs l →
    Owes (gs ++ turn_given (place_of_call l.connections) rs) (after_replies rs l)
turn_owes [] l gs h = subst (λ (xs : List GivenItems). Owes xs l) (sym (append-nil gs)) h
turn_owes (r ∷ rs) l gs h =
    let here : List GivenItems = items_at_place (place_of_call l.connections r.call) r in
    let m : LoneInstance = after_reply r l in
    let later = turn_owes rs m (gs ++ here) (reply_owes r l gs h) in
    let given : (gs ++ here) ++ turn_given (place_of_call m.connections) rs ≡ gs ++ (here ++ turn_given (place_of_call l.connections) rs) =
    ap (λ (xs : List GivenItems). (gs ++ here) ++ xs)
    (same_given (place_of_call m.connections) (place_of_call l.connections) rs
    (place_kept r.call.connection r.call.stream (owed_items r.items) l.connections))
    ∙ append_assoc gs here (turn_given (place_of_call l.connections) rs) in
    subst (λ (xs : List GivenItems). Owes xs (after_replies rs m)) given later
