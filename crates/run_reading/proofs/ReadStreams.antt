-- Events of calls, and what one stream of the first connection of a number is owed by them.
use Rattle.std.proofs.Common.{◌≡◌, ℕ, List, [], ◌∷◌, ◌++◌, refl, ap, ◌∙◌, sym, subst, append_assoc, inl, inr}
use Rattle.std.specs.Prelude.{Bool, true, false, cond, ◌==◌, ◌&&◌, ◌⊎◌, Option, Some, None}
use Rattle.std.specs.List.{AllByRecursion, list_any}
use Rattle.std.proofs.lemmas.Bool.{cases_Bool, eqb-true}
use Rattle.grpc_sending.specs.Owed.{OwedItem, Item, items_owed_on, owed_with_item}
use Rattle.grpc_sending.proofs.Histories.{append-nil}
use Rattle.conn_core.specs.History.{Entry, has_failed, live_streams}
use Rattle.conn_core.specs.declared.event.CallEvent.{CallEvent}
use Rattle.conn_core.specs.declared.event.CallEvent.TheVariants as Seen
use Rattle.conn_core.specs.Calls.{messages_of, stream_text}
use Rattle.conn_core.specs.Past.{Past, with_item}
use Rattle.conn_core.proofs.Numbers.{same_number}
use Rattle.conn_core.proofs.Opened.{IsOpened}
use Rattle.instance_core.specs.Method.{Method}
use Rattle.instance_core.specs.Method.TheVariants.{Read}
use Rattle.instance_core.specs.declared.event.CallId.{CallId}
use Rattle.instance_core.specs.Calls.{CallValue, CallEventValue, same_call}
use Rattle.instance_core.specs.State.{InstanceState, IsInstanceWithin}
use Rattle.instance_core.specs.Replies.{ReplyItemValue, ReplyValue}
use Rattle.instance_core.specs.Answer.{answer, state_after}
use Rattle.served_instance.specs.Connections.{LoneConnection, open_at, at_open}
use Rattle.served_instance.specs.Calls.{call_id, call_event_on, owed_items, with_items}
use Rattle.served_instance.specs.Lone.{LoneInstance, after_replies, after_call_event, after_call_events}
use Rattle.served_instance.proofs.Brought.{IsShortCall, short_on}
use Rattle.served_instance.proofs.LimitsKept.{KeepsLimits, happened_keeps}
use Rattle.run_reading.specs.Happenings.{is_stream_open}
use Rattle.run_reading.specs.ReadsBlob.{methods_on}
use Rattle.run_reading.proofs.Answers.{AreTo, head_replies, message_replies, fault_replies, end_replies}
use Rattle.run_reading.proofs.Calls.{items_history, items_owed, happened_state}
use Rattle.run_reading.proofs.Turns.{closed_keeps, answerable}
use Rattle.run_reading.proofs.CallEntries.{kept_at, same_self, AreNotTo}
use Rattle.run_reading.proofs.Looks.{Look, look_at, opened, IsQuiet, quiet_look, other_look, IsPastOf, past_of, closed_look}
use Rattle.run_reading.proofs.OneStream.{head_in, message_in, heads_in, messages_in}
use Rattle.run_reading.proofs.ReadCalls.{Stands, IsAnswered, Next, StaysNone, said, head_apart, message_apart, fault_apart, end_apart, cancel_apart, same_name, none_message, none_fault, none_end, none_cancel, next_head, next_message, next_fault, next_end, next_cancel}

abbrev pub messages_to : List Entry → ℕ → List (List ℕ)
messages_to d s = (messages_of (stream_text d s)).items

-- ---- replies to other calls

number_off : (s t : ℕ) → (s == t) ≡ false → (t == s) ≡ false
number_off s t off = elim (cases_Bool (t == s)) [
  | inl at ↦
      let is : t ≡ s = eqb-true t s at in
      let no : true ≡ false = sym (same_number s) ∙ ap (λ (n : ℕ). s == n) (sym is) ∙ off in
      absurd (let z : ⊥ = cc in z)
  | inr other ↦ other
]

pub item_aside : (d : List Entry) (os : List OwedItem) (s t : ℕ) (item : Item) → (t == s) ≡ false →
    items_owed_on s (owed_with_item d os t item) ≡ items_owed_on s os
item_aside d os s t item other = go (has_failed d) (list_any (λ u. u == t) (live_streams d)) where
  more : (os : List OwedItem) → items_owed_on s (os ++ record { stream = t; item = item } ∷ []) ≡ items_owed_on s os
  more [] = ap (λ b. cond b (item ∷ []) [] ++ []) other
  more (o ∷ os) = ap (λ (is : List Item). cond (o.stream == s) (o.item ∷ []) [] ++ is) (more os)

  go : (failed live : Bool) → items_owed_on s (cond failed os (cond live (os ++ record { stream = t; item = item } ∷ []) os))
      ≡ items_owed_on s os
  go true live = refl
  go false true = more os
  go false false = refl

items_aside : (s t : ℕ) (items : List Item) → (t == s) ≡ false → IsQuiet s (with_items t items)
items_aside s t [] other p = (refl, refl)
items_aside s t (item ∷ items) other p =
    let later = items_aside s t items other (with_item p t item) in
    (later.0, later.1 ∙ item_aside p.history p.owed s t item other)

abbrev here : ℕ → ℕ → LoneInstance → Option Look
here c s l = look_at c s l.connections

abbrev pub kept : ℕ → ℕ → LoneInstance → List CallValue
kept c s l = kept_at (call_id c s) l.state.calls

reply_aside : (c s : ℕ) (r : ReplyValue) (l : LoneInstance) → same_call (call_id c s) r.call ≡ false →
    look_at c s (at_open r.call.connection (with_items r.call.stream (owed_items r.items)) l.connections) ≡ here c s l
reply_aside c s r l off = elim (cases_Bool (c == r.call.connection)) [
  | inl at ↦
      let other : (s == r.call.stream) ≡ false = sym (ap (λ b. b && s == r.call.stream) at) ∙ off in
      quiet_look c r.call.connection s (with_items r.call.stream (owed_items r.items)) l.connections
      (items_aside s r.call.stream (owed_items r.items) (number_off s r.call.stream other))
  | inr other ↦ other_look c r.call.connection s (with_items r.call.stream (owed_items r.items)) l.connections
      (number_off c r.call.connection other)
]

pub replies_aside : (c s : ℕ) (rs : List ReplyValue) (l : LoneInstance) → AreNotTo (call_id c s) rs →
    here c s (after_replies rs l) ≡ here c s l
replies_aside c s [] l off = refl
replies_aside c s (r ∷ rs) l off =
    replies_aside c s rs (record l {
      connections =
          at_open r.call.connection (with_items r.call.stream (owed_items r.items)) l.connections;
    }) off.1
    ∙ reply_aside c s r l off.0

not_to : (id x : CallId) (rs : List ReplyValue) → AreTo x rs → same_call id x ≡ false → AreNotTo id rs
not_to id x [] to off = tt
not_to id x (r ∷ rs) to off = (subst (λ (y : CallId). same_call id y ≡ false) (sym to.0) off, not_to id x rs to.1 off)

-- ---- replies of any kind

-- the connection is open, has heard the same, and is owed these
pub record IsOpen (c s : ℕ) (l : LoneInstance) (d : List Entry) : Type 0 where
  pub items : List Item
  pub look : here c s l ≡ Some (opened d items)

step_open : (c s n t : ℕ) (items : List Item) (ks : List LoneConnection) (d : List Entry) (owed : List Item) →
    look_at c s ks ≡ Some (opened d owed) → (more : List Item) × (look_at c s (at_open n (with_items t items) ks) ≡ Some (opened d more))
step_open c s n t items ks d owed h = elim (cases_Bool (n == c)) [
  | inl at ↦
      let same : n ≡ c = eqb-true n c at in
      let p = past_of c s ks (opened d owed) refl h in
      let q = with_items t items p.past in
      let past : (with_items t items p.past).history ≡ d = items_history t items p.past ∙ p.history in (
        items_owed_on s q.owed,
        subst (λ (m : ℕ). look_at c s (at_open m (with_items t items) ks) ≡ Some (opened d (items_owed_on s q.owed))) (sym same)
            (p.step (with_items t items) ∙ ap (λ (e : List Entry). Some (opened e (items_owed_on s q.owed))) past),
      )
  | inr other ↦ (owed, other_look c n s (with_items t items) ks other ∙ h)
]

pub replies_open : (c s : ℕ) (rs : List ReplyValue) (l : LoneInstance) (d : List Entry) → IsOpen c s l d → IsOpen c s (after_replies rs l) d
replies_open c s [] l d h = h
replies_open c s (r ∷ rs) l d h =
    let m : LoneInstance = record l {
      connections =
          at_open r.call.connection (with_items r.call.stream (owed_items r.items)) l.connections;
    } in
    let one = step_open c s r.call.connection r.call.stream (owed_items r.items) l.connections d h.items h.look in
    replies_open c s rs m d (record { items = one.0; look = one.1 })

pub calls_open : (c s n : ℕ) (es : List CallEvent) (l : LoneInstance) (d : List Entry) → IsOpen c s l d →
    IsOpen c s (after_call_events n es l) d
calls_open c s n [] l d h = h
calls_open c s n (e ∷ es) l d h =
    calls_open c s n es (after_call_event (call_event_on n e) l) d
    (replies_open c s (answer l.state (call_event_on n e)).replies (record l { state = state_after l.state (call_event_on n e) }) d
    (record { items = h.items; look = h.look }))

pub replies_closed : (c s : ℕ) (rs : List ReplyValue) (l : LoneInstance) (x : Look) → x.lives ≡ false → here c s l ≡ Some x →
    here c s (after_replies rs l) ≡ Some x
replies_closed c s [] l x shut h = h
replies_closed c s (r ∷ rs) l x shut h =
    replies_closed c s rs (record l {
      connections =
          at_open r.call.connection (with_items r.call.stream (owed_items r.items)) l.connections;
    }) x shut
    (one (cases_Bool (r.call.connection == c))) where
      one : ((r.call.connection == c) ≡ true) ⊎ ((r.call.connection == c) ≡ false) →
          look_at c s (at_open r.call.connection (with_items r.call.stream (owed_items r.items)) l.connections) ≡ Some x
      one (inl at) =
          subst (λ (m : ℕ). look_at c s (at_open m (with_items r.call.stream (owed_items r.items)) l.connections) ≡ Some x)
          (sym (eqb-true r.call.connection c at))
          (closed_look c s (with_items r.call.stream (owed_items r.items)) l.connections x shut h)
      one (inr other) = other_look c r.call.connection s (with_items r.call.stream (owed_items r.items)) l.connections other ∙ h

pub calls_closed : (c s n : ℕ) (es : List CallEvent) (l : LoneInstance) (x : Look) → x.lives ≡ false → here c s l ≡ Some x →
    here c s (after_call_events n es l) ≡ Some x
calls_closed c s n [] l x shut h = h
calls_closed c s n (e ∷ es) l x shut h =
    calls_closed c s n es (after_call_event (call_event_on n e) l) x shut
    (replies_closed c s (answer l.state (call_event_on n e)).replies
    (record l { state = state_after l.state (call_event_on n e) }) x shut h)

-- ---- an event of another call

pub record IsAside (c s : ℕ) (l m : LoneInstance) : Type 0 where
  pub calls : kept c s m ≡ kept c s l
  pub look : here c s m ≡ here c s l

event_aside : (c s : ℕ) (event : CallEventValue) (l : LoneInstance) (x : CallId) → AreTo x (answer l.state event).replies →
    same_call (call_id c s) x ≡ false
    → kept_at (call_id c s) (state_after l.state event).calls ≡ kept_at (call_id c s) l.state.calls →
    IsAside c s l (after_call_event event l)
event_aside c s event l x to off same = record {
  calls = ap (λ (t : InstanceState). kept_at (call_id c s) t.calls) (happened_state event l) ∙ same;
  look = replies_aside c s (answer l.state event).replies (record l { state = state_after l.state event })
      (not_to (call_id c s) x (answer l.state event).replies to off);
}

-- the stream that it is of
abbrev pub stream_of : CallEvent → ℕ
stream_of (Seen.Head t method) = t
stream_of (Seen.Message t bytes) = t
stream_of (Seen.Fault t refusal) = t
stream_of (Seen.End t) = t
stream_of (Seen.Cancel t) = t

pub call_aside : (c s n : ℕ) (e : CallEvent) (l : LoneInstance) → same_call (call_id c s) (call_id n (stream_of e)) ≡ false →
    IsAside c s l (after_call_event (call_event_on n e) l)
call_aside c s n (Seen.Head t method) l off = event_aside c s (call_event_on n (Seen.Head t method)) l (call_id n t)
    (head_replies l.state (call_id n t) method) off (head_apart (call_id c s) (call_id n t) method l.state off)
call_aside c s n (Seen.Message t bytes) l off =
    event_aside c s (call_event_on n (Seen.Message t bytes)) l (call_id n t) (message_replies l.state (call_id n t) bytes) off
    (message_apart (call_id c s) (call_id n t) bytes l.state off)
call_aside c s n (Seen.Fault t refusal) l off =
    event_aside c s (call_event_on n (Seen.Fault t refusal)) l (call_id n t) (fault_replies l.state (call_id n t) refusal) off
    (fault_apart (call_id c s) (call_id n t) refusal l.state off)
call_aside c s n (Seen.End t) l off = event_aside c s (call_event_on n (Seen.End t)) l (call_id n t) (end_replies l.state (call_id n t)) off
    (end_apart (call_id c s) (call_id n t) l.state off)
call_aside c s n (Seen.Cancel t) l off = event_aside c s (call_event_on n (Seen.Cancel t)) l (call_id n t) tt off
    (cancel_apart (call_id c s) (call_id n t) l.state off)

elsewhere : (c s n t : ℕ) → (n == c) ≡ false → same_call (call_id c s) (call_id n t) ≡ false
elsewhere c s n t other = ap (λ b. b && s == t) (number_off n c other)

off_stream : (c s t : ℕ) → (t == s) ≡ false → same_call (call_id c s) (call_id c t) ≡ false
off_stream c s t other = ap (λ b. b && s == t) (same_number c) ∙ number_off t s other

pub calls_elsewhere : (c s n : ℕ) (es : List CallEvent) (l : LoneInstance) → (n == c) ≡ false → IsAside c s l (after_call_events n es l)
calls_elsewhere c s n [] l other = record { calls = refl; look = refl }
calls_elsewhere c s n (e ∷ es) l other =
    let first = call_aside c s n e l (elsewhere c s n (stream_of e) other) in
    let later = calls_elsewhere c s n es (after_call_event (call_event_on n e) l) other in
    record { calls = later.calls ∙ first.calls; look = later.look ∙ first.look }

-- ---- nothing is kept of a call that did not begin

no_head : (s : ℕ) (e : CallEvent) (es : List CallEvent) → heads_in s (e ∷ es) ≡ [] → (head_in s e ≡ []) × (heads_in s es ≡ [])
no_head s e es h = go (head_in s e) h where
  go : (ms : List Method) → ms ++ heads_in s es ≡ [] → (ms ≡ []) × (heads_in s es ≡ [])
  go [] h = (refl, h)
  go (m ∷ ms) h = absurd (let z : ⊥ = cc in z)

none_here : (c s : ℕ) (event : CallEventValue) (l : LoneInstance) → kept c s l ≡ [] → StaysNone (call_id c s) l.state event →
    IsAside c s l (after_call_event event l)
none_here c s event l is stays =
    let m : LoneInstance = record l { state = state_after l.state event } in
    record {
      calls = ap (λ (t : InstanceState). kept_at (call_id c s) t.calls) (happened_state event l) ∙ stays.calls ∙ sym is;
      look = ap (λ (rs : List ReplyValue). here c s (after_replies rs m)) stays.replies;
    }

on_it : (c s t : ℕ) → (t == s) ≡ true → call_id c t ≡ call_id c s
on_it c s t at = ap (call_id c) (eqb-true t s at)

head_not : (s t : ℕ) (m : Method) → head_in s (Seen.Head t m) ≡ [] → (t == s) ≡ false
head_not s t m h = go (t == s) h where
  go : (b : Bool) → cond b (m ∷ []) [] ≡ [] → b ≡ false
  go true h = absurd (let z : ⊥ = cc in z)
  go false h = refl

none_event : (c s : ℕ) (e : CallEvent) (l : LoneInstance) → kept c s l ≡ [] → head_in s e ≡ [] →
    IsAside c s l (after_call_event (call_event_on c e) l)
none_event c s e l is none = go e none (cases_Bool (stream_of e == s)) where
  go : (e : CallEvent) → head_in s e ≡ [] → ((stream_of e == s) ≡ true) ⊎ ((stream_of e == s) ≡ false) →
      IsAside c s l (after_call_event (call_event_on c e) l)
  go e none (inr other) = call_aside c s c e l (off_stream c s (stream_of e) other)
  go (Seen.Head t m) none (inl at) = absurd (let no : true ≡ false = sym at ∙ head_not s t m none in let z : ⊥ = cc in z)
  go (Seen.Message t bytes) none (inl at) = none_here c s (call_event_on c (Seen.Message t bytes)) l is
      (subst (λ (x : CallId). StaysNone (call_id c s) l.state (call_event_on c (Seen.Message x.stream bytes))) (sym (on_it c s t at))
      (none_message (call_id c s) l.state bytes is))
  go (Seen.Fault t refusal) none (inl at) = none_here c s (call_event_on c (Seen.Fault t refusal)) l is
      (subst (λ (x : CallId). StaysNone (call_id c s) l.state (call_event_on c (Seen.Fault x.stream refusal))) (sym (on_it c s t at))
      (none_fault (call_id c s) l.state refusal is))
  go (Seen.End t) none (inl at) = none_here c s (call_event_on c (Seen.End t)) l is
      (subst (λ (x : CallId). StaysNone (call_id c s) l.state (call_event_on c (Seen.End x.stream))) (sym (on_it c s t at))
      (none_end (call_id c s) l.state is))
  go (Seen.Cancel t) none (inl at) = none_here c s (call_event_on c (Seen.Cancel t)) l is
      (subst (λ (x : CallId). StaysNone (call_id c s) l.state (call_event_on c (Seen.Cancel x.stream))) (sym (on_it c s t at))
      (none_cancel (call_id c s) l.state is))

pub none_events : (c s : ℕ) (es : List CallEvent) (l : LoneInstance) → kept c s l ≡ [] → heads_in s es ≡ [] →
    IsAside c s l (after_call_events c es l)
none_events c s [] l is none = record { calls = refl; look = refl }
none_events c s (e ∷ es) l is none =
    let parts = no_head s e es none in
    let first = none_event c s e l is parts.0 in
    let later = none_events c s es (after_call_event (call_event_on c e) l) (first.calls ∙ is) parts.1 in
    record { calls = later.calls ∙ first.calls; look = later.look ∙ first.look }

-- ---- a call of Read

-- these messages came to it, and so it stands
pub record Reads (name : List ℕ) (c s : ℕ) (l : LoneInstance) (d : List Entry) (ms : List (List ℕ)) : Type 0 where
  pub items : List Item
  pub look : here c s l ≡ Some (opened d items)
  pub stands : Stands name (kept c s l) ms items

pub record IsFine (name : List ℕ) (l : LoneInstance) : Type 0 where
  pub limits : KeepsLimits l
  pub own : l.state.name ≡ name

pub event_fine : (name : List ℕ) (n : ℕ) (e : CallEvent) (l : LoneInstance) → IsShortCall e → IsFine name l →
    IsFine name (after_call_event (call_event_on n e) l)
event_fine name n e l short h = record {
  limits = happened_keeps (call_event_on n e) l (short_on n e short) h.limits;
  own = ap (λ (t : InstanceState). t.name) (happened_state (call_event_on n e) l) ∙ same_name l.state (call_event_on n e) ∙ h.own;
}

-- what was said to it is owed to its stream, or to none
said_look : (c s : ℕ) (its : List ReplyItemValue) (l : LoneInstance) (d : List Entry) (items : List Item) →
    here c s l ≡ Some (opened d items)
    → (more : List Item) × (here c s (after_replies (said (call_id c s) its) l) ≡ Some (opened d more))
    × ((more ≡ items) ⊎ (more ≡ items ++ owed_items its))
said_look c s [] l d items h = (items, h, inl refl)
said_look c s (it ∷ its) l d items h =
    let p = past_of c s l.connections (opened d items) refl h in
    let ys : List Item = owed_items (it ∷ its) in
    let q : Past = with_items s ys p.past in
    let past : q.history ≡ d = items_history s ys p.past ∙ p.history in (
      items_owed_on s q.owed,
      p.step (with_items s ys)
          ∙ ap (λ (e : List Entry). Some (opened e (items_owed_on s q.owed))) past,
      owed p (cases_Bool (is_stream_open s p.past)),
    )
  where
    owed : (p : IsPastOf c s l.connections (opened d items)) → (is_stream_open s p.past ≡ true) ⊎ (is_stream_open s p.past ≡ false)
        → (items_owed_on s (with_items s (owed_items (it ∷ its)) p.past).owed ≡ items)
        ⊎ (items_owed_on s (with_items s (owed_items (it ∷ its)) p.past).owed ≡ items ++ owed_items (it ∷ its))
    owed p (inl lives) =
        inr (items_owed s s (owed_items (it ∷ its)) p.past (answerable s p.past lives)
        ∙ ap (λ (is : List Item). is ++ cond (s == s) (owed_items (it ∷ its)) []) p.items
        ∙ ap (λ b. items ++ cond b (owed_items (it ∷ its)) []) (same_number s))
    owed p (inr shut) = inl (ap (items_owed_on s) (closed_keeps s (owed_items (it ∷ its)) p.past shut) ∙ p.items)

by_next : (name : List ℕ) (c s : ℕ) (event : CallEventValue) (l : LoneInstance) (d : List Entry) (ms : List (List ℕ)) (items : List Item) →
    here c s l ≡ Some (opened d items)
    → Next name (call_id c s) l.state event ms items → Reads name c s (after_call_event event l) d ms
by_next name c s event l d ms items h next =
    let m : LoneInstance = record l { state = state_after l.state event } in
    let x = said_look c s next.its m d items h in
    let calls : kept c s (after_call_event event l) ≡ kept_at (call_id c s) (state_after l.state event).calls =
    ap (λ (t : InstanceState). kept_at (call_id c s) t.calls) (happened_state event l) in
    record {
      items = x.0;
      look = ap (λ (rs : List ReplyValue). here c s (after_replies rs m)) next.replies ∙ x.1;
      stands = subst (λ (vs : List CallValue). Stands name vs ms x.0) (sym calls) (chosen x.0 x.2);
    } where
      chosen : (more : List Item) → (more ≡ items) ⊎ (more ≡ items ++ owed_items next.its) →
          Stands name (kept_at (call_id c s) (state_after l.state event).calls) ms more
      chosen more (inl is) = subst (λ (ys : List Item). Stands name (kept_at (call_id c s) (state_after l.state event).calls) ms ys)
          (sym is) next.lost
      chosen more (inr is) = subst (λ (ys : List Item). Stands name (kept_at (call_id c s) (state_after l.state event).calls) ms ys)
          (sym is) next.owed

reads_aside : (name : List ℕ) (c s : ℕ) (l m : LoneInstance) (d : List Entry) (ms : List (List ℕ)) → IsAside c s l m →
    Reads name c s l d ms → Reads name c s m d ms
reads_aside name c s l m d ms off h = record {
  items = h.items;
  look = off.look ∙ h.look;
  stands = subst (λ (vs : List CallValue). Stands name vs ms h.items) (sym off.calls) h.stands;
}

read_event : (name : List ℕ) (c s : ℕ) (e : CallEvent) (l : LoneInstance) (d : List Entry) (ms : List (List ℕ)) → IsFine name l →
    head_in s e ≡ [] → Reads name c s l d ms → Reads name c s (after_call_event (call_event_on c e) l) d (ms ++ message_in s e)
read_event name c s e l d ms fine none h = go e none (cases_Bool (stream_of e == s)) where
  same : (e : CallEvent) → message_in s e ≡ [] → Reads name c s (after_call_event (call_event_on c e) l) d ms →
      Reads name c s (after_call_event (call_event_on c e) l) d (ms ++ message_in s e)
  same e quiet r = subst (Reads name c s (after_call_event (call_event_on c e) l) d)
      (sym (append-nil ms) ∙ ap (λ (xs : List (List ℕ)). ms ++ xs) (sym quiet)) r

  quiet_off : (e : CallEvent) → (stream_of e == s) ≡ false → message_in s e ≡ []
  quiet_off (Seen.Head t m) other = refl
  quiet_off (Seen.Message t bytes) other = ap (λ b. cond b (bytes ∷ []) []) other
  quiet_off (Seen.Fault t refusal) other = refl
  quiet_off (Seen.End t) other = refl
  quiet_off (Seen.Cancel t) other = refl

  moved : (t : ℕ) (event : ℕ → CallEventValue) (ms : List (List ℕ)) → (t == s) ≡ true →
      Next name (call_id c s) l.state (event s) ms h.items → Reads name c s (after_call_event (event t) l) d ms
  moved t event ms at next = subst (λ (n : ℕ). Reads name c s (after_call_event (event n) l) d ms) (sym (eqb-true t s at))
      (by_next name c s (event s) l d ms h.items h.look next)

  go : (e : CallEvent) → head_in s e ≡ [] → ((stream_of e == s) ≡ true) ⊎ ((stream_of e == s) ≡ false) →
      Reads name c s (after_call_event (call_event_on c e) l) d (ms ++ message_in s e)
  go e none (inr other) = same e (quiet_off e other)
      (reads_aside name c s l (after_call_event (call_event_on c e) l) d ms (call_aside c s c e l (off_stream c s (stream_of e) other)) h)
  go (Seen.Head t m) none (inl at) = absurd (let no : true ≡ false = sym at ∙ head_not s t m none in let z : ⊥ = cc in z)
  go (Seen.Message t bytes) none (inl at) =
      let one : bytes ∷ [] ≡ message_in s (Seen.Message t bytes) = sym (ap (λ b. cond b (bytes ∷ []) []) at) in
      subst (λ (xs : List (List ℕ)). Reads name c s (after_call_event (call_event_on c (Seen.Message t bytes)) l) d (ms ++ xs)) one
      (moved t (λ n. call_event_on c (Seen.Message n bytes)) (ms ++ bytes ∷ []) at
      (next_message name (call_id c s) l.state bytes ms h.items h.stands))
  go (Seen.Fault t refusal) none (inl at) = same (Seen.Fault t refusal) refl
      (moved t (λ n. call_event_on c (Seen.Fault n refusal)) ms at (next_fault name (call_id c s) l.state refusal ms h.items h.stands))
  go (Seen.End t) none (inl at) = same (Seen.End t) refl
      (moved t (λ n. call_event_on c (Seen.End n)) ms at
      (next_end name (call_id c s) l.state ms h.items fine.limits.within fine.own h.stands))
  go (Seen.Cancel t) none (inl at) = same (Seen.Cancel t) refl
      (moved t (λ n. call_event_on c (Seen.Cancel n)) ms at (next_cancel name (call_id c s) l.state ms h.items h.stands))

pub read_events : (name : List ℕ) (c s : ℕ) (es : List CallEvent) (l : LoneInstance) (d : List Entry) (ms : List (List ℕ)) → IsFine name l →
    AllByRecursion IsShortCall es → heads_in s es ≡ [] → Reads name c s l d ms →
    Reads name c s (after_call_events c es l) d (ms ++ messages_in s es)
read_events name c s [] l d ms fine short none h = subst (Reads name c s l d) (sym (append-nil ms)) h
read_events name c s (e ∷ es) l d ms fine short none h =
    let m : LoneInstance = after_call_event (call_event_on c e) l in
    let parts = no_head s e es none in
    let first = read_event name c s e l d ms fine parts.0 h in
    let later = read_events name c s es m d (ms ++ message_in s e) (event_fine name c e l short.0 fine) short.1 parts.1 first in
    subst (Reads name c s (after_call_events c es m) d) (append_assoc ms (message_in s e) (messages_in s es)) later

pub begun : (name : List ℕ) (c s : ℕ) (l : LoneInstance) (d : List Entry) (items : List Item) → here c s l ≡ Some (opened d items) →
    kept c s l ≡ [] → items ≡ [] → Reads name c s (after_call_event (call_event_on c (Seen.Head s Read)) l) d []
begun name c s l d items h is none = by_next name c s (call_event_on c (Seen.Head s Read)) l d [] items h
    (next_head name (call_id c s) l.state items is none)
