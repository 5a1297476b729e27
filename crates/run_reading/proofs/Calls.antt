-- The replies to calls are owed to their streams.
use Rattle.std.proofs.Common.{◌≡◌, ℕ, ◌<◌, List, [], ◌∷◌, ◌++◌, refl, ap, ◌∙◌, sym, subst, append_assoc, arith, length}
use Rattle.std.specs.Prelude.{Bool, true, false, cond, ◌==◌, map, fold, Option, Some}
use Rattle.std.specs.List.{AllByRecursion}
use Rattle.std.specs.Option.{option_map_or}
use Rattle.std.proofs.lemmas.Grind.{flat_map-append}
use Rattle.conn_core.specs.History.{Entry}
use Rattle.grpc_sending.specs.Owed.{OwedItem, Item, item_on, items_owed_on, owed_with_item}
use Rattle.grpc_sending.proofs.Histories.{append-nil}
use Rattle.conn_core.specs.declared.event.CallEvent.{CallEvent}
use Rattle.conn_core.specs.declared.event.CallEvent.TheVariants as Seen
use Rattle.conn_core.specs.Past.{Past, with_item}
use Rattle.instance_core.specs.declared.event.CallId.{CallId}
use Rattle.instance_core.specs.Calls.{CallEventValue}
use Rattle.instance_core.specs.State.{InstanceState}
use Rattle.instance_core.specs.Replies.{ReplyValue}
use Rattle.instance_core.specs.Answer.{answer, state_after}
use Rattle.served_instance.specs.Connections.{open_at, at_open}
use Rattle.served_instance.specs.Calls.{call_id, call_event_on, owed_items, with_items}
use Rattle.served_instance.specs.Lone.{LoneInstance, after_replies, after_call_event, after_call_events, due_at, without_due, after_due_on}
use Rattle.client_reading.specs.Answerable.{IsAnswerableStream, IsAnswerable}
use Rattle.run_reading.specs.Happenings.{connection_place, call_happenings, due_happenings}
use Rattle.run_reading.specs.Replies.{GivenItems, items_of_reply, state_after_happening, given_items_from}
use Rattle.run_reading.proofs.Answers.{AreTo, head_replies, message_replies, fault_replies, end_replies}
use Rattle.run_reading.proofs.Owes.{Gift, give, OwedFrom, AreBelow, Gives, step_owed, quiet_owed, place_below, same_length, given_below, same_place, open_step}
use Rattle.client_reading.proofs.Choices.{all_append}

-- ---- the items of one reply

pub more_owed : (d : List Entry) (os : List OwedItem) (s t : ℕ) (item : Item) → IsAnswerableStream d s →
    items_owed_on t (owed_with_item d os s item) ≡ items_owed_on t os ++ cond (s == t) (item ∷ []) []
more_owed d os s t item h =
    let more : owed_with_item d os s item ≡ os ++ record { stream = s; item = item } ∷ [] = rw (h.0, h.1) refl in
    ap (items_owed_on t) more ∙ flat_map-append (item_on t) os (record { stream = s; item = item } ∷ [])
    ∙ ap (λ is. items_owed_on t os ++ is) (append-nil (cond (s == t) (item ∷ []) []))

pub items_history : (s : ℕ) (items : List Item) (p : Past) → (with_items s items p).history ≡ p.history
items_history s [] p = refl
items_history s (item ∷ items) p = items_history s items (with_item p s item)

pub items_due : (s : ℕ) (items : List Item) (p : Past) → (with_items s items p).due ≡ p.due
items_due s [] p = refl
items_due s (item ∷ items) p = items_due s items (with_item p s item)

abbrev no_items : List Item
no_items = []

cond_none : (b : Bool) → cond b no_items no_items ≡ no_items
cond_none true = refl
cond_none false = refl

cond_more : (b : Bool) (os items : List Item) (item : Item) →
    (os ++ cond b (item ∷ []) []) ++ cond b items [] ≡ os ++ cond b (item ∷ items) []
cond_more true os items item = append_assoc os (item ∷ []) items
cond_more false os items item = append-nil (os ++ [])

pub items_owed : (s t : ℕ) (items : List Item) (p : Past) → IsAnswerableStream p.history s →
    items_owed_on t (with_items s items p).owed ≡ items_owed_on t p.owed ++ cond (s == t) items []
items_owed s t [] p h = sym (append-nil (items_owed_on t p.owed)) ∙ ap (λ is. items_owed_on t p.owed ++ is) (sym (cond_none (s == t)))
items_owed s t (item ∷ items) p h =
    items_owed s t items (with_item p s item) h ∙ ap (λ is. is ++ cond (s == t) items []) (more_owed p.history p.owed s t item h)
    ∙ cond_more (s == t) (items_owed_on t p.owed) items item

pub gives_items : (s : ℕ) (items : List Item) (p : Past) → IsAnswerableStream p.history s → Gives (with_items s items) p ((s, items) ∷ [])
gives_items s items p h t = items_owed s t items p h ∙ ap (λ is. items_owed_on t p.owed ++ is) (sym (append-nil (cond (s == t) items [])))

-- ---- what all connections are owed

pub record Owes (gs : List GivenItems) (l : LoneInstance) : Type 0 where
  pub owed : OwedFrom 0 gs l.connections
  pub below : AreBelow (length l.connections) gs

pub owes_step : (c : ℕ) (step : Past → Past) (gs : List GivenItems) (xs : List Gift) (l : LoneInstance) (p : Past) →
    open_at c l.connections ≡ Some p → Gives step p xs → Owes gs l →
    Owes (gs ++ map (give (connection_place c l.connections)) xs) (record l { connections = at_open c step l.connections })
owes_step c step gs xs l p is gives h =
    let n : ℕ = connection_place c l.connections in
    let low = place_below c l.connections p is in
    let below : AreBelow (length l.connections) (gs ++ map (give n) xs) =
    all_append (λ (g : GivenItems). g.place < length l.connections) gs (map (give n) xs) h.below
    (given_below n (length l.connections) xs low) in
    record {
      owed = step_owed c n 0 step gs xs l.connections p is gives (omega arith) h.owed;
      below = subst (λ (m : ℕ). AreBelow m (gs ++ map (give n) xs)) (sym (same_length c step l.connections)) below;
    }

pub owes_quiet : (c : ℕ) (step : Past → Past) (gs : List GivenItems) (l : LoneInstance) → ((p : Past) → (step p).owed ≡ p.owed) →
    Owes gs l → Owes gs (record l { connections = at_open c step l.connections })
owes_quiet c step gs l none h = record {
  owed = quiet_owed c 0 step gs l.connections none h.owed;
  below = subst (λ (m : ℕ). AreBelow m gs) (sym (same_length c step l.connections)) h.below;
}

-- ---- replies

-- the connection of number c is open still, at its place, and what passed on it is what passed
-- before
record HasReplied (c n : ℕ) (d : List Entry) (gs : List GivenItems) (m : LoneInstance) : Type 0 where
  past : Past
  stays : open_at c m.connections ≡ Some past
  history : past.history ≡ d
  place : connection_place c m.connections ≡ n
  owes : Owes gs m

replied_owes : (c s : ℕ) (rs : List ReplyValue) (l : LoneInstance) (p : Past) (gs : List GivenItems) → open_at c l.connections ≡ Some p →
    IsAnswerableStream p.history s → AreTo (call_id c s) rs → Owes gs l →
    HasReplied c (connection_place c l.connections) p.history (gs ++ map (items_of_reply (connection_place c l.connections)) rs)
    (after_replies rs l)
replied_owes c s [] l p gs is live' to h = record
    { past = p; stays = is; history = refl; place = refl; owes = subst (λ (xs : List GivenItems). Owes xs l) (sym (append-nil gs)) h }
replied_owes c s (r ∷ rs) l p gs is live' to h =
    let items : List Item = owed_items r.items in
    let n : ℕ = connection_place c l.connections in
    let m : LoneInstance = record l { connections = at_open c (with_items s items) l.connections } in
    let q : Past = with_items s items p in
    let same : q.history ≡ p.history = items_history s items p in
    let first : Owes (gs ++ give n (s, items) ∷ []) m =
    owes_step c (with_items s items) gs ((s, items) ∷ []) l p is (gives_items s items p live') h in
    let later = replied_owes c s rs m q (gs ++ give n (s, items) ∷ []) (open_step c (with_items s items) l.connections p is)
    (subst (λ (d : List Entry). IsAnswerableStream d s) (sym same) live') to.1 first in
    let place : connection_place c m.connections ≡ n = same_place c c (with_items s items) l.connections in
    let given : (gs ++ give n (s, items) ∷ []) ++ map (items_of_reply (connection_place c m.connections)) rs ≡ gs
    ++ map (items_of_reply n) (r ∷ rs) =
    ap (λ (k : ℕ). (gs ++ give n (s, items) ∷ []) ++ map (items_of_reply k) rs) place
    ∙ append_assoc gs (give n (s, items) ∷ []) (map (items_of_reply n) rs)
    ∙ ap (λ (id : CallId). gs ++ give n (id.stream, items) ∷ map (items_of_reply n) rs) (sym to.0) in
    let P : CallId → Type 0 = λ id. HasReplied c n p.history (gs ++ map (items_of_reply n) (r ∷ rs))
    (after_replies rs (record l { connections = at_open id.connection (with_items id.stream items) l.connections })) in
    subst P (sym to.0) (record {
      past = later.past;
      stays = later.stays;
      history = later.history ∙ same;
      place = later.place ∙ place;
      owes =
          subst (λ (xs : List GivenItems). Owes xs (after_replies rs m)) given later.owes;
    })

-- ---- an event of a call

pub replied_state : (rs : List ReplyValue) (l : LoneInstance) → (after_replies rs l).state ≡ l.state
replied_state [] l = refl
replied_state (r ∷ rs) l = replied_state rs (record l
    { connections = at_open r.call.connection (with_items r.call.stream (owed_items r.items)) l.connections })

pub happened_state : (event : CallEventValue) (l : LoneInstance) → (after_call_event event l).state ≡ state_after l.state event
happened_state event l = replied_state (answer l.state event).replies (record l { state = state_after l.state event })

abbrev Replies : ℕ → CallEvent → LoneInstance → List GivenItems → Type 0
Replies c e l gs = (p : Past) → open_at c l.connections ≡ Some p → IsAnswerable p.history e → Owes gs l
    → HasReplied c (connection_place c l.connections) p.history
    (gs ++ map (items_of_reply (connection_place c l.connections)) (answer l.state (call_event_on c e)).replies)
    (after_call_event (call_event_on c e) l)

pub with_state : (l : LoneInstance) (event : CallEventValue) (gs : List GivenItems) → Owes gs l →
    Owes gs (record l { state = state_after l.state event })
with_state l event gs h = record { owed = h.owed; below = h.below }

event_owes : (c : ℕ) (e : CallEvent) (l : LoneInstance) (gs : List GivenItems) → Replies c e l gs
event_owes c (Seen.Head s method) l gs p is a h =
    replied_owes c s (answer l.state (call_event_on c (Seen.Head s method))).replies
    (record l { state = state_after l.state (call_event_on c (Seen.Head s method)) }) p gs is a (head_replies l.state (call_id c s) method)
    (with_state l (call_event_on c (Seen.Head s method)) gs h)
event_owes c (Seen.Message s bytes) l gs p is a h =
    replied_owes c s (answer l.state (call_event_on c (Seen.Message s bytes))).replies
    (record l { state = state_after l.state (call_event_on c (Seen.Message s bytes)) }) p gs is a
    (message_replies l.state (call_id c s) bytes) (with_state l (call_event_on c (Seen.Message s bytes)) gs h)
event_owes c (Seen.Fault s refusal) l gs p is a h =
    replied_owes c s (answer l.state (call_event_on c (Seen.Fault s refusal))).replies
    (record l { state = state_after l.state (call_event_on c (Seen.Fault s refusal)) }) p gs is a
    (fault_replies l.state (call_id c s) refusal) (with_state l (call_event_on c (Seen.Fault s refusal)) gs h)
event_owes c (Seen.End s) l gs p is a h = replied_owes c s (answer l.state (call_event_on c (Seen.End s))).replies
    (record l { state = state_after l.state (call_event_on c (Seen.End s)) }) p gs is a (end_replies l.state (call_id c s))
    (with_state l (call_event_on c (Seen.End s)) gs h)
event_owes c (Seen.Cancel s) l gs p is a h = record {
  past = p;
  stays = is;
  history = refl;
  place = refl;
  owes =
      subst (λ (xs : List GivenItems). Owes xs (after_call_event (call_event_on c (Seen.Cancel s)) l)) (sym (append-nil gs))
      (with_state l (call_event_on c (Seen.Cancel s)) gs h);
}

-- ---- events of calls, one after another

pub calls_state : (n c : ℕ) (es : List CallEvent) (l : LoneInstance) →
    (after_call_events c es l).state ≡ fold state_after_happening l.state (call_happenings n c es)
calls_state n c [] l = refl
calls_state n c (e ∷ es) l = calls_state n c es (after_call_event (call_event_on c e) l)
    ∙ ap (λ (s : InstanceState). fold state_after_happening s (call_happenings n c es)) (happened_state (call_event_on c e) l)

abbrev given_calls : InstanceState → ℕ → ℕ → List CallEvent → List GivenItems
given_calls s n c es = given_items_from s (call_happenings n c es)

pub calls_owe : (c : ℕ) (es : List CallEvent) (l : LoneInstance) (p : Past) (gs : List GivenItems) → open_at c l.connections ≡ Some p →
    AllByRecursion (IsAnswerable p.history) es → Owes gs l →
    Owes (gs ++ given_items_from l.state (call_happenings (connection_place c l.connections) c es)) (after_call_events c es l)
calls_owe c [] l p gs is all h = subst (λ (xs : List GivenItems). Owes xs l) (sym (append-nil gs)) h
calls_owe c (e ∷ es) l p gs is all h =
    let n : ℕ = connection_place c l.connections in
    let event : CallEventValue = call_event_on c e in
    let m : LoneInstance = after_call_event event l in
    let here : List GivenItems = map (items_of_reply n) (answer l.state event).replies in
    let first = event_owes c e l gs p is all.0 h in
    let later = calls_owe c es m first.past (gs ++ here) first.stays
    (subst (λ (d : List Entry). AllByRecursion (IsAnswerable d) es) (sym first.history) all.1) first.owes in
    let given : (gs ++ here) ++ given_calls m.state (connection_place c m.connections) c es ≡ gs
    ++ (here ++ given_calls (state_after l.state event) n c es) =
    ap (λ (k : ℕ). (gs ++ here) ++ given_calls m.state k c es) first.place
    ∙ ap (λ (s : InstanceState). (gs ++ here) ++ given_calls s n c es) (happened_state event l)
    ∙ append_assoc gs here (given_calls (state_after l.state event) n c es) in
    subst (λ (xs : List GivenItems). Owes xs (after_call_events c es m)) given later

-- ---- what is due

pub due_is : (c : ℕ) (l : LoneInstance) (p : Past) → open_at c l.connections ≡ Some p → due_at c l ≡ p.due
due_is c l p is = ap (λ (o : Option Past). option_map_or (λ (q : Past). q.due) o []) is

pub due_owes : (c : ℕ) (l : LoneInstance) (p : Past) (gs : List GivenItems) → open_at c l.connections ≡ Some p →
    AllByRecursion (IsAnswerable p.history) p.due → Owes gs l →
    Owes (gs ++ given_items_from l.state (due_happenings c l)) (after_due_on c l)
due_owes c l p gs is all h =
    let m : LoneInstance = record l { connections = at_open c without_due l.connections } in
    let owes : Owes gs m = owes_quiet c without_due gs l (λ q. refl) h in
    let all' : AllByRecursion (IsAnswerable p.history) (due_at c l) =
    subst (λ (es : List CallEvent). AllByRecursion (IsAnswerable p.history) es) (sym (due_is c l p is)) all in
    let later = calls_owe c (due_at c l) m (without_due p) gs (open_step c without_due l.connections p is) all' owes in
    subst (λ (k : ℕ). Owes (gs ++ given_calls l.state k c (due_at c l)) (after_due_on c l)) (same_place c c without_due l.connections) later

-- ---- calls that are given up

abbrev pub IsCancel : CallEvent → Type 0
IsCancel (Seen.Cancel s) = Unit {0}
IsCancel _ = ⊥

pub cancels_owe : (c n : ℕ) (es : List CallEvent) (l : LoneInstance) (gs : List GivenItems) → AllByRecursion IsCancel es → Owes gs l →
    Owes (gs ++ given_items_from l.state (call_happenings n c es)) (after_call_events c es l)
cancels_owe c n [] l gs all h = subst (λ (xs : List GivenItems). Owes xs l) (sym (append-nil gs)) h
cancels_owe c n (Seen.Cancel s ∷ es) l gs all h =
    cancels_owe c n es (record l { state = state_after l.state (call_event_on c (Seen.Cancel s)) }) gs all.1
    (with_state l (call_event_on c (Seen.Cancel s)) gs h)
cancels_owe c n (Seen.Head s m ∷ es) l gs all h = absurd all.0
cancels_owe c n (Seen.Message s b ∷ es) l gs all h = absurd all.0
cancels_owe c n (Seen.Fault s r ∷ es) l gs all h = absurd all.0
cancels_owe c n (Seen.End s ∷ es) l gs all h = absurd all.0
