-- What happens in each step of an instance makes its state, and what its streams are owed.
use Rattle.std.proofs.Common.{◌≡◌, ℕ, List, [], ◌∷◌, ◌++◌, refl, ap, ◌∙◌, sym, subst, append_assoc, arith, length, length-append, inl, inr}
use Rattle.std.specs.Prelude.{true, false, cond, ◌==◌, map, filter, fold, Option, Some, None, Result, Ok, Err}
use Rattle.std.specs.List.{AllByRecursion}
use Rattle.std.specs.Option.{option_map_or}
use Rattle.std.proofs.lemmas.Bool.{cases_Bool}
use Rattle.std.proofs.lemmas.List.Sums.{fold-append}
use Rattle.conn_core.specs.ReaderConstants.{CLIENT_PREFACE}
use Rattle.conn_core.specs.ErrorCode.{ErrorCode}
use Rattle.conn_core.specs.FrameError.{FrameError}
use Rattle.conn_core.specs.RawFrame.{RawFrame}
use Rattle.conn_core.specs.Reading.{split}
use Rattle.conn_core.specs.Event.{Event}
use Rattle.conn_core.specs.Event.TheVariants.{Nothing, Request, Content, Trailers, Cancel as StreamCancel}
use Rattle.conn_core.specs.History.{Entry, has_failed, live_streams}
use Rattle.conn_core.specs.Rules.{reading_fault}
use Rattle.instance_core.specs.Method.{Method}
use Rattle.conn_core.specs.HeadFault.{HeadFault}
use Rattle.conn_core.specs.Requests.{head_of}
use Rattle.grpc_sending.specs.Owed.{OwedItem, Item, items_owed_on, owed_with_item}
use Rattle.grpc_sending.proofs.Histories.{append-nil}
use Rattle.conn_core.specs.declared.event.CallEvent.{CallEvent}
use Rattle.conn_core.specs.declared.event.CallEvent.TheVariants as Seen
use Rattle.conn_core.specs.Calls.{is_call, cancels, answer_to_head, items_at_once}
use Rattle.conn_core.specs.Received.{received_raw_frames, outcome}
use Rattle.conn_core.specs.Past.{Past, new_past, owed_with_items, with_frame, with_fault, with_taken, with_pumped, with_bytes}
use Rattle.instance_core.specs.State.{InstanceState, LimitsValue}
use Rattle.instance_core.specs.Visible.{Blob}
use Rattle.served_instance.proofs.LimitsKept.{AreNamed}
use Rattle.instance_core.specs.Calls.{CallEventValue, IsShortEvent, tick as time_passes, start_jobs, end_late_jobs, end_job}
use Rattle.instance_core.specs.Replies.{ReplyValue}
use Rattle.instance_core.specs.Answer.{answer, state_after}
use Rattle.server_events.specs.Events.{LoneEvent, WhatValue, opened, received, took, closed, tick, ended}
use Rattle.served_instance.specs.declared.refusal.EventRefusal.{EventRefusal}
use Rattle.served_instance.specs.Narrow.{IsNarrowWhat, IsNarrow}
use Rattle.served_instance.specs.Connections.{LoneConnection, is_open_at, open_at, at_open, with_closed, at_all_open}
use Rattle.served_instance.specs.Calls.{call_event_on, owed_items, with_items}
use Rattle.served_instance.specs.Lone.{LoneInstance, after_replies, after_call_event, after_call_events, due_at, without_due, after_frame_on, is_over, after_frames_on, after_fault_on, after_end_on, unread_frames, after_reading_on, after_bytes_on, after_opening, after_closing, effect_of, lone_at_rest, after_pump, lone_at_moment, after_event, new_lone}
use Rattle.served_instance.specs.Refusals.{refusal_of, after_event_unless, lone_step}
use Rattle.server_core.specs.Families.{FamilyEvent, own_event, parent_event, event_in}
use Rattle.server_core.specs.Runs.{FamilyRun, texts_of_parent, family_step}
use Rattle.server_core.proofs.Limits.{FamilyKeeps, named_beside, step_keeps}
use Rattle.client_reading.specs.Answerable.{IsAnswerableStream, CanGoOn}
use Rattle.client_reading.specs.Changes.{IsReceivable, IsPast}
use Rattle.client_reading.proofs.Answerable.{calls_answerable, requests_answerable}
use Rattle.client_reading.proofs.Choices.{choose, all_append, all_by}
use Rattle.client_reading.proofs.Pasts.{frames_received}
use Rattle.served_instance.proofs.Brought.{IsShortCall, short_on, frame_short}
use Rattle.run_reading.proofs.Connections.{HasPast, ArePasts}
use Rattle.run_reading.specs.Happenings.{Happening, MomentCame, EventOver, TimePassed, connection_place, call_happenings, due_happenings}
use Rattle.run_reading.specs.Happenings.{answer_happenings, request_happenings, frame_happenings, happenings_of_frames, fault_happenings}
use Rattle.run_reading.specs.Happenings.{end_happenings, reading_happenings, happenings_of_bytes, close_happenings, happenings_by, happenings_unless}
use Rattle.run_reading.specs.Happenings.{step_happenings, family_happenings, happenings, place_of_call, turn_happenings}
use Rattle.run_reading.specs.Replies.{GivenItems, given_items_at, state_after_happening, given_items_from}
use Rattle.run_reading.proofs.Chosen.{limits_after}
use Rattle.run_reading.proofs.Lifts.{frame_made, fault_made, happened_made, acted_made, pumped_made, bytes_made, all_drop}
use Rattle.run_reading.proofs.Owes.{OwedFrom, Gift, give, gifts_on, Gives, AreBelow, all_owed, closed_owed, opened_owed, below_more, all_length, closed_length, open_step, none_open, open_has}
use Rattle.run_reading.proofs.Named.{IsShortHappening}
use Rattle.run_reading.proofs.Calls.{more_owed, items_due, Owes, owes_step, owes_quiet, happened_state, with_state, due_is, calls_state, due_owes, IsCancel, cancels_owe}
use Rattle.run_reading.proofs.Turns.{turn_given, turn_owes}

-- ---- no event of a call is left over

abbrev HasNoneDue : LoneConnection → Type 0
HasNoneDue k = k.past.due ≡ []

abbrev AreNoneDue : List LoneConnection → Type 0
AreNoneDue ks = AllByRecursion HasNoneDue ks

pub quiet_due : (c : ℕ) (step : Past → Past) (ks : List LoneConnection) → ((p : Past) → (step p).due ≡ p.due) → AreNoneDue ks →
    AreNoneDue (at_open c step ks)
quiet_due c step [] same h = tt
quiet_due c step (k ∷ ks) same h = choose AreNoneDue (is_open_at c k) (record k { past = step k.past } ∷ ks) (k ∷ at_open c step ks)
    (λ _. (same k.past ∙ h.0, h.1)) (λ _. (h.0, quiet_due c step ks same h.1))

taken_due : (c : ℕ) (step : Past → Past) (ks : List LoneConnection) → AreNoneDue ks → AreNoneDue (at_open c without_due (at_open c step ks))
taken_due c step [] h = tt
taken_due c step (k ∷ ks) h = elim (cases_Bool (is_open_at c k)) [
  | inl here ↦ rw here (rw here (refl, h.1))
  | inr other ↦ rw other (rw other (h.0, taken_due c step ks h.1))
]

closed_due : (c : ℕ) (ks : List LoneConnection) → AreNoneDue ks → AreNoneDue (with_closed c ks)
closed_due c [] h = tt
closed_due c (k ∷ ks) h = choose AreNoneDue (is_open_at c k) (record k { is_open = false } ∷ ks) (k ∷ with_closed c ks) (λ _. h)
    (λ _. (h.0, closed_due c ks h.1))

pumped_due : (ks : List LoneConnection) → AreNoneDue ks → AreNoneDue (at_all_open with_pumped ks)
pumped_due [] h = tt
pumped_due (k ∷ ks) h = (choose HasNoneDue k.is_open (record k { past = with_pumped k.past }) k (λ _. h.0) (λ _. h.0), pumped_due ks h.1)

replied_due : (rs : List ReplyValue) (l : LoneInstance) → AreNoneDue l.connections → AreNoneDue (after_replies rs l).connections
replied_due [] l h = h
replied_due (r ∷ rs) l h = replied_due rs (record l
    { connections = at_open r.call.connection (with_items r.call.stream (owed_items r.items)) l.connections })
    (quiet_due r.call.connection (with_items r.call.stream (owed_items r.items)) l.connections
    (items_due r.call.stream (owed_items r.items)) h)

calls_due : (c : ℕ) (es : List CallEvent) (l : LoneInstance) → AreNoneDue l.connections → AreNoneDue (after_call_events c es l).connections
calls_due c [] l h = h
calls_due c (e ∷ es) l h = calls_due c es (after_call_event (call_event_on c e) l)
    (replied_due (answer l.state (call_event_on c e)).replies (record l { state = state_after l.state (call_event_on c e) }) h)

-- ---- a step, with what happens in it

pub record Holds (gs : List GivenItems) (l : LoneInstance) : Type 0 where
  pub owes : Owes gs l
  pub pasts : ArePasts l
  pub due : AreNoneDue l.connections

-- what happened leads from one to the other
pub record Moves (N : Type 0) (l : LoneInstance) (hs : List Happening) (m : LoneInstance) : Type 0 where
  pub state : m.state ≡ fold state_after_happening l.state hs
  pub holds : (gs : List GivenItems) → Holds gs l → Holds (gs ++ given_items_from l.state hs) m
  -- no message that comes is too long, where the outcomes of jobs are such
  pub short : N → (gs : List GivenItems) → Holds gs l → AllByRecursion IsShortHappening hs

-- the same connections are owed the same
holds_at : (gs : List GivenItems) (l m : LoneInstance) → m.state.limits ≡ l.state.limits → m.connections ≡ l.connections → Holds gs l →
    Holds gs m
holds_at gs l m chosen same h = record {
  owes = record {
    owed = subst (λ (ks : List LoneConnection). OwedFrom 0 gs ks) (sym same) h.owes.owed;
    below =
        subst (λ (ks : List LoneConnection). AreBelow (length ks) gs) (sym same) h.owes.below;
  };
  pasts = subst (λ (ks : List LoneConnection). AllByRecursion (HasPast m.state.limits.window) ks) (sym same)
      (subst (λ (limits : LimitsValue). AllByRecursion (HasPast limits.window) l.connections) (sym chosen) h.pasts);
  due = subst AreNoneDue (sym same) h.due;
}

given_append : (s : InstanceState) (hs ks : List Happening) →
    given_items_from s (hs ++ ks) ≡ given_items_from s hs ++ given_items_from (fold state_after_happening s hs) ks
given_append s [] ks = refl
given_append s (h ∷ hs) ks =
    ap (λ (gs : List GivenItems). given_items_at s h ++ gs) (given_append (state_after_happening s h) hs ks)
    ∙ sym (append_assoc (given_items_at s h) (given_items_from (state_after_happening s h) hs)
    (given_items_from (fold state_after_happening (state_after_happening s h) hs) ks))

then_moves : {N : Type 0} (l m n : LoneInstance) (hs ks : List Happening) → Moves N l hs m → Moves N m ks n → Moves N l (hs ++ ks) n
then_moves l m n hs ks first later = record {
  state = later.state ∙ ap (λ (s : InstanceState). fold state_after_happening s ks) first.state
      ∙ sym (fold-append state_after_happening l.state hs ks);
  holds = λ gs h.
      let given : (gs ++ given_items_from l.state hs) ++ given_items_from m.state ks ≡ gs ++ given_items_from l.state (hs ++ ks) =
      ap (λ (s : InstanceState). (gs ++ given_items_from l.state hs) ++ given_items_from s ks) first.state
      ∙ append_assoc gs (given_items_from l.state hs) (given_items_from (fold state_after_happening l.state hs) ks)
      ∙ ap (λ (xs : List GivenItems). gs ++ xs) (sym (given_append l.state hs ks)) in
      subst (λ (xs : List GivenItems). Holds xs n) given (later.holds (gs ++ given_items_from l.state hs) (first.holds gs h));
  short = λ narrow gs h. all_append IsShortHappening hs ks (first.short narrow gs h)
      (later.short narrow (gs ++ given_items_from l.state hs) (first.holds gs h));
}

-- a step in which nothing is answered
quietly : {N : Type 0} (l m : LoneInstance) → m.state ≡ l.state → ((gs : List GivenItems) → Holds gs l → Holds gs m) → Moves N l [] m
quietly l m same keeps = record {
  state = same;
  holds =
      λ gs h. subst (λ (xs : List GivenItems). Holds xs m) (sym (append-nil gs)) (keeps gs h);
  short = λ n gs h. tt;
}

-- ---- no message is too long

calls_short : (n c : ℕ) (es : List CallEvent) → AllByRecursion IsShortCall es → AllByRecursion IsShortHappening (call_happenings n c es)
calls_short n c [] h = tt
calls_short n c (e ∷ es) h = (short_on c e h.0, calls_short n c es h.1)

head_short : (n s : ℕ) (r : Result Method HeadFault) → AllByRecursion IsShortHappening (answer_happenings n (answer_to_head s r))
head_short n s (Ok method) = tt
head_short n s (Err fault) = (tt, tt)

requests_short : (n : ℕ) (v : Event) → AllByRecursion IsShortHappening (answer_happenings n (items_at_once v))
requests_short n Nothing = tt
requests_short n (Request s fields end_stream) = head_short n s (head_of fields)
requests_short n (Content s content end_stream) = tt
requests_short n (Trailers s) = tt
requests_short n (StreamCancel s) = tt

cancel_short : (e : CallEvent) → IsCancel e → IsShortCall e
cancel_short (Seen.Cancel s) h = tt
cancel_short (Seen.Head s m) h = absurd h
cancel_short (Seen.Message s b) h = absurd h
cancel_short (Seen.Fault s r) h = absurd h
cancel_short (Seen.End s) h = absurd h

cancels_are_short : (n c : ℕ) (es : List CallEvent) → AllByRecursion IsCancel es → AllByRecursion IsShortHappening (call_happenings n c es)
cancels_are_short n c es h = calls_short n c es (all_by IsCancel IsShortCall es cancel_short h)

-- ---- a frame

abbrev gifts : List (ℕ × Item) → List Gift
gifts xs = map (λ (x : ℕ × Item). (x.0, x.1 ∷ [])) xs

requests_given : (s : InstanceState) (n : ℕ) (xs : List (ℕ × Item)) → given_items_from s (answer_happenings n xs) ≡ map (give n) (gifts xs)
requests_given s n [] = refl
requests_given s n (x ∷ xs) = ap (λ (gs : List GivenItems). give n (x.0, x.1 ∷ []) ∷ gs) (requests_given s n xs)

requests_state : (s : InstanceState) (n : ℕ) (xs : List (ℕ × Item)) → fold state_after_happening s (answer_happenings n xs) ≡ s
requests_state s n [] = refl
requests_state s n (x ∷ xs) = requests_state s n xs

all_owe : (d : List Entry) (os : List OwedItem) (s : ℕ) (xs : List (ℕ × Item)) →
    AllByRecursion (λ (x : ℕ × Item). IsAnswerableStream d x.0) xs →
    items_owed_on s (owed_with_items d os xs) ≡ items_owed_on s os ++ gifts_on s (gifts xs)
all_owe d os s [] h = sym (append-nil (items_owed_on s os))
all_owe d os s (x ∷ xs) h =
    all_owe d (owed_with_item d os x.0 x.1) s xs h.1 ∙ ap (λ (is : List Item). is ++ gifts_on s (gifts xs)) (more_owed d os x.0 s x.1 h.0)
    ∙ append_assoc (items_owed_on s os) (cond (x.0 == s) (x.1 ∷ []) []) (gifts_on s (gifts xs))

requests_are : (c : ℕ) (f : RawFrame) (l : LoneInstance) (p : Past) → open_at c l.connections ≡ Some p →
    request_happenings c f l ≡ answer_happenings (connection_place c l.connections) (items_at_once (outcome p.history f).event)
requests_are c f l p is = ap (λ (o : Option Past). option_map_or
    (λ (q : Past). answer_happenings (connection_place c l.connections) (items_at_once (outcome q.history f).event)) o []) is

frame_owes : (c : ℕ) (f : RawFrame) (l : LoneInstance) (p : Past) (gs : List GivenItems) → open_at c l.connections ≡ Some p →
    IsPast l.state.limits.window p → CanGoOn p → Owes gs l →
    Owes (gs ++ given_items_from l.state (frame_happenings c f l)) (after_frame_on c f l)
frame_owes c f l p gs is made on h =
    let n : ℕ = connection_place c l.connections in
    let xs : List (ℕ × Item) = items_at_once (outcome p.history f).event in
    let q : Past = with_frame p f in
    let step : Past → Past = λ r. with_frame r f in
    let m : LoneInstance = record l { connections = at_open c step l.connections } in
    let gives : Gives step p (gifts xs) = λ s. all_owe q.history p.owed s xs (requests_answerable l.state.limits.window p f made on) in
    let first : Owes (gs ++ map (give n) (gifts xs)) m = owes_step c step gs (gifts xs) l p is gives h in
    let later = due_owes c m q (gs ++ map (give n) (gifts xs)) (open_step c step l.connections p is)
    (calls_answerable l.state.limits.window p f made on) first in
    let requests : given_items_from l.state (request_happenings c f l) ≡ map (give n) (gifts xs) =
    ap (given_items_from l.state) (requests_are c f l p is) ∙ requests_given l.state n xs in
    let unmoved : fold state_after_happening l.state (request_happenings c f l) ≡ l.state =
    ap (fold state_after_happening l.state) (requests_are c f l p is) ∙ requests_state l.state n xs in
    let given : (gs ++ map (give n) (gifts xs)) ++ given_items_from l.state (due_happenings c m) ≡ gs
    ++ given_items_from l.state (frame_happenings c f l) =
    append_assoc gs (map (give n) (gifts xs)) (given_items_from l.state (due_happenings c m))
    ∙ ap (λ (ys : List GivenItems). gs ++ (ys ++ given_items_from l.state (due_happenings c m))) (sym requests)
    ∙ ap (λ (s : InstanceState). gs ++ (given_items_from l.state (request_happenings c f l) ++ given_items_from s (due_happenings c m)))
    (sym unmoved)
    ∙ ap (λ (ys : List GivenItems). gs ++ ys) (sym (given_append l.state (request_happenings c f l) (due_happenings c m))) in
    subst (λ (ys : List GivenItems). Owes ys (after_frame_on c f l)) given later

frame_state : (c : ℕ) (f : RawFrame) (l : LoneInstance) (p : Past) → open_at c l.connections ≡ Some p →
    (after_frame_on c f l).state ≡ fold state_after_happening l.state (frame_happenings c f l)
frame_state c f l p is =
    let m : LoneInstance = record l { connections = at_open c (λ r. with_frame r f) l.connections } in
    let due : LoneInstance = record m { connections = at_open c without_due m.connections } in
    let xs : List (ℕ × Item) = items_at_once (outcome p.history f).event in
    let unmoved : fold state_after_happening l.state (request_happenings c f l) ≡ l.state =
    ap (fold state_after_happening l.state) (requests_are c f l p is) ∙ requests_state l.state (connection_place c l.connections) xs in
    calls_state (connection_place c m.connections) c (due_at c m) due
    ∙ ap (λ (s : InstanceState). fold state_after_happening s (due_happenings c m)) (sym unmoved)
    ∙ sym (fold-append state_after_happening l.state (request_happenings c f l) (due_happenings c m))

frame_is_short : (c : ℕ) (f : RawFrame) (l : LoneInstance) (p : Past) → open_at c l.connections ≡ Some p → p.due ≡ [] →
    AllByRecursion IsShortHappening (frame_happenings c f l)
frame_is_short c f l p is none =
    let step : Past → Past = λ r. with_frame r f in
    let m : LoneInstance = record l { connections = at_open c step l.connections } in
    let requests : AllByRecursion IsShortHappening (request_happenings c f l) =
    subst (AllByRecursion IsShortHappening) (sym (requests_are c f l p is))
    (requests_short (connection_place c l.connections) (outcome p.history f).event) in
    let due : AllByRecursion IsShortCall (with_frame p f).due = frame_short f p (subst (AllByRecursion IsShortCall) (sym none) tt) in
    let calls : AllByRecursion IsShortCall (due_at c m) =
    subst (AllByRecursion IsShortCall) (sym (due_is c m (with_frame p f) (open_step c step l.connections p is))) due in
    all_append IsShortHappening (request_happenings c f l) (due_happenings c m) requests
    (calls_short (connection_place c m.connections) c (due_at c m) calls)

pub frame_moves : {N : Type 0} (c : ℕ) (f : RawFrame) (l : LoneInstance) (p : Past) → open_at c l.connections ≡ Some p →
    has_failed p.history ≡ false → IsReceivable f → Moves N l (frame_happenings c f l) (after_frame_on c f l)
frame_moves c f l p is fine framed = record {
  state = frame_state c f l p is;
  holds = λ gs h. record {
    owes = frame_owes c f l p gs is (open_has (IsPast l.state.limits.window) c l.connections p is h.pasts)
        (fine, open_has (λ (q : Past). q.due ≡ []) c l.connections p is h.due) h.owes;
    pasts = frame_made c f l framed h.pasts;
    due = calls_due c (due_at c (record l { connections = at_open c (λ r. with_frame r f) l.connections }))
        (record l { connections = at_open c without_due (at_open c (λ r. with_frame r f) l.connections) })
        (taken_due c (λ r. with_frame r f) l.connections h.due);
  };
  short = λ narrow gs h. frame_is_short c f l p is (open_has (λ (q : Past). q.due ≡ []) c l.connections p is h.due);
}

-- a connection that is not over is open, and has met no error
pub record GoesOn (c : ℕ) (l : LoneInstance) : Type 0 where
  pub past : Past
  pub is : open_at c l.connections ≡ Some past
  pub fine : has_failed past.history ≡ false

pub goes_on : (c : ℕ) (l : LoneInstance) → is_over c l ≡ false → GoesOn c l
goes_on c l h = found (open_at c l.connections) refl h where
  found : (o : Option Past) → open_at c l.connections ≡ o → option_map_or (λ (p : Past). has_failed p.history) o true ≡ false → GoesOn c l
  found None is h = cc
  found (Some p) is h = record { past = p; is = is; fine = h }

frames_move : {N : Type 0} (c : ℕ) (fs : List RawFrame) (l : LoneInstance) → AllByRecursion IsReceivable fs →
    Moves N l (happenings_of_frames c fs l) (after_frames_on c fs l)
frames_move c [] l all = quietly l l refl (λ gs h. h)
frames_move c (f ∷ fs) l all = elim (cases_Bool (is_over c l)) [
  | inl over ↦ rw over (quietly l l refl (λ gs h. h))
  | inr fine ↦
      let on = goes_on c l fine in
      rw fine (then_moves l (after_frame_on c f l) (after_frames_on c fs (after_frame_on c f l)) (frame_happenings c f l)
      (happenings_of_frames c fs (after_frame_on c f l)) (frame_moves c f l on.past on.is on.fine all.0)
      (frames_move c fs (after_frame_on c f l) all.1))
]

-- ---- bytes that are no frame

cancel_each : (ss : List ℕ) → AllByRecursion IsCancel (map Seen.Cancel ss)
cancel_each [] = tt
cancel_each (s ∷ ss) = (tt, cancel_each ss)

cancels_all : (d : List Entry) → AllByRecursion IsCancel (cancels d)
cancels_all d = choose (AllByRecursion IsCancel) (has_failed d) [] (map Seen.Cancel (filter (is_call d) (live_streams d))) (λ _. tt)
    (λ _. cancel_each (filter (is_call d) (live_streams d)))

fault_cancels : (p : Past) (e : FrameError) (code : ErrorCode) → p.due ≡ [] → AllByRecursion IsCancel (with_fault p e code).due
fault_cancels p e code none = subst (λ (es : List CallEvent). AllByRecursion IsCancel (es ++ cancels p.history)) (sym none)
    (cancels_all p.history)

fault_due : (c : ℕ) (e : FrameError) (code : ErrorCode) (l : LoneInstance) → AreNoneDue l.connections →
    AllByRecursion IsCancel (due_at c (record l { connections = at_open c (λ p. with_fault p e code) l.connections }))
fault_due c e code l h = found (open_at c l.connections) refl where
  step : Past → Past
  step p = with_fault p e code

  found : (o : Option Past) → open_at c l.connections ≡ o →
      AllByRecursion IsCancel (due_at c (record l { connections = at_open c (λ p. with_fault p e code) l.connections }))
  found None is = subst (λ (o : Option Past). AllByRecursion IsCancel (option_map_or (λ (q : Past). q.due) o []))
      (sym (none_open c step l.connections is)) tt
  found (Some p) is = subst (λ (o : Option Past). AllByRecursion IsCancel (option_map_or (λ (q : Past). q.due) o []))
      (sym (open_step c step l.connections p is)) (fault_cancels p e code (open_has (λ (q : Past). q.due ≡ []) c l.connections p is h))

pub fault_moves : {N : Type 0} (c : ℕ) (e : FrameError) (l : LoneInstance) (o : Option ErrorCode) → reading_fault e ≡ o →
    Moves N l (fault_happenings c e l o) (after_fault_on c e l o)
fault_moves c e l None is = quietly l l refl (λ gs h. h)
fault_moves c e l (Some code) is =
    let step : Past → Past = λ p. with_fault p e code in
    let m : LoneInstance = record l { connections = at_open c step l.connections } in
    let due : LoneInstance = record m { connections = at_open c without_due m.connections } in
    record {
      state = calls_state (connection_place c m.connections) c (due_at c m) due;
      holds = λ gs h. record {
        owes = cancels_owe c (connection_place c m.connections) (due_at c m) due gs (fault_due c e code l h.due)
            (owes_quiet c without_due gs m (λ p. refl) (owes_quiet c step gs l (λ p. refl) h.owes));
        pasts = fault_made c e l (Some code) is h.pasts;
        due = calls_due c (due_at c m) due (taken_due c step l.connections h.due);
      };
      short = λ narrow gs h. cancels_are_short (connection_place c m.connections) c (due_at c m) (fault_due c e code l h.due);
    }

end_moves : {N : Type 0} (c : ℕ) (r : Result (List ℕ) FrameError) (l : LoneInstance) → Moves N l (end_happenings c r l) (after_end_on c r l)
end_moves c (Ok rest) l = quietly l l refl (λ gs h. h)
end_moves c (Err e) l = elim (cases_Bool (is_over c l)) [
  | inl over ↦ rw over (quietly l l refl (λ gs h. h))
  | inr fine ↦ rw fine (fault_moves c e l (reading_fault e) refl)
]

all_move : {N : Type 0} (c : ℕ) (l : LoneInstance) (o : Option Past) → Moves N l (reading_happenings c l o) (after_reading_on c l o)
all_move c l None = quietly l l refl (λ gs h. h)
all_move c l (Some p) =
    let m : LoneInstance = after_frames_on c (unread_frames p) l in
    let end : Result (List ℕ) FrameError = (split CLIENT_PREFACE.now p.text).end in
    let framed : AllByRecursion IsReceivable (unread_frames p) =
    all_drop (length (received_raw_frames p.history)) (split CLIENT_PREFACE.now p.text).items
    (frames_received CLIENT_PREFACE.now p.text) in
    then_moves l m (after_end_on c end m) (happenings_of_frames c (unread_frames p) l) (end_happenings c end m)
    (frames_move c (unread_frames p) l framed) (end_moves c end m)

pub came_moves : {N : Type 0} (c : ℕ) (bytes : List ℕ) (l : LoneInstance) →
    Moves N l (happenings_of_bytes c bytes l) (after_bytes_on c bytes l)
came_moves c bytes l =
    let step : Past → Past = with_bytes bytes in
    let m : LoneInstance = record l { connections = at_open c step l.connections } in
    then_moves l m (after_bytes_on c bytes l) [] (happenings_of_bytes c bytes l)
    (quietly l m refl (λ gs h. record {
      owes = owes_quiet c step gs l (λ p. refl) h.owes;
      pasts = bytes_made c bytes l h.pasts;
      due =
          quiet_due c step l.connections (λ p. refl) h.due;
    }))
    (all_move c m (open_at c m.connections))

-- ---- the other events

opened_moves : {N : Type 0} (c : ℕ) (l : LoneInstance) → Moves N l [] (after_opening c l)
opened_moves c l =
    let k : LoneConnection = record { number = c; past = new_past l.state.limits.window; is_open = true } in
    quietly l (after_opening c l) refl (λ gs h. record {
      owes = record {
        owed = opened_owed 0 gs l.connections k refl (subst (λ (n : ℕ). AreBelow n gs) (omega arith) h.owes.below) h.owes.owed;
        below = below_more (length l.connections) (length (l.connections ++ k ∷ [])) gs
            (omega (arith, length-append l.connections (k ∷ []))) h.owes.below;
      };
      pasts = acted_made (opened c) l h.pasts;
      due = all_append HasNoneDue l.connections (k ∷ []) h.due (refl, tt);
    })

took_moves : {N : Type 0} (c n : ℕ) (l : LoneInstance) → Moves N l [] (effect_of (took c n) l)
took_moves c n l = quietly l (effect_of (took c n) l) refl (λ gs h. record {
  owes = owes_quiet c (λ p. with_taken p n) gs l (λ p. refl) h.owes;
  pasts = acted_made (took c n) l h.pasts;
  due = quiet_due c (λ p. with_taken p n) l.connections (λ p. refl) h.due;
})

close_cancels : (c : ℕ) (l : LoneInstance) → AllByRecursion IsCancel
    (option_map_or (λ (p : Past). cancels p.history) (open_at c l.connections) [])
close_cancels c l = found (open_at c l.connections) where
  found : (o : Option Past) → AllByRecursion IsCancel (option_map_or (λ (p : Past). cancels p.history) o [])
  found None = tt
  found (Some p) = cancels_all p.history

closed_moves : {N : Type 0} (c : ℕ) (l : LoneInstance) → Moves N l (close_happenings c l) (after_closing c l)
closed_moves c l =
    let m : LoneInstance = record l { connections = with_closed c l.connections } in
    let es : List CallEvent = option_map_or (λ (p : Past). cancels p.history) (open_at c l.connections) [] in
    record {
      state = calls_state (connection_place c l.connections) c es m;
      holds = λ gs h.
          let owes : Owes gs m = record {
            owed = closed_owed c 0 gs l.connections h.owes.owed;
            below =
                subst (λ (n : ℕ). AreBelow n gs) (sym (closed_length c l.connections)) h.owes.below;
          } in
          record {
            owes = cancels_owe c (connection_place c l.connections) es m gs (close_cancels c l) owes;
            pasts = acted_made (closed c) l h.pasts;
            due = calls_due c es m (closed_due c l.connections h.due);
          };
      short = λ narrow gs h. cancels_are_short (connection_place c l.connections) c es (close_cancels c l);
    }

-- what answers nothing gives nothing
unanswered : {N : Type 0} (l m : LoneInstance) (h : Happening) → m.state ≡ state_after_happening l.state h → given_items_at l.state h ≡ [] →
    IsShortHappening h → m.state.limits ≡ l.state.limits → m.connections ≡ l.connections → Moves N l (h ∷ []) m
unanswered l m h state none short chosen same = record {
  state = state;
  holds = λ gs holds.
      let given : gs ++ given_items_from l.state (h ∷ []) ≡ gs = ap (λ (xs : List GivenItems). gs ++ (xs ++ [])) none ∙ append-nil gs in
      subst (λ (xs : List GivenItems). Holds xs m) (sym given) (holds_at gs l m chosen same holds);
  short = λ narrow gs holds. (short, tt);
}

came_moves_at : {N : Type 0} (parent : List Blob) (moment : ℕ) (l : LoneInstance) → (N → AreNamed parent) →
    Moves N l (MomentCame parent moment ∷ []) (lone_at_moment moment parent l)
came_moves_at parent moment l named = record {
  state = refl;
  holds = λ gs h. subst (λ (xs : List GivenItems). Holds xs (lone_at_moment moment parent l)) (sym (append-nil gs))
      (holds_at gs l (lone_at_moment moment parent l) refl refl h);
  short = λ n gs h. (named n, tt);
}

-- ---- jobs

turn_moves : {N : Type 0} (event : CallEventValue) (l : LoneInstance) → (N → IsShortEvent event) →
    Moves N l (turn_happenings event l) (after_call_event event l)
turn_moves event l short =
    let rs : List ReplyValue = (answer l.state event).replies in
    let m : LoneInstance = record l { state = state_after l.state event } in
    record {
      state = happened_state event l;
      holds = λ gs h.
          let given : turn_given (place_of_call l.connections) rs ≡ given_items_from l.state (turn_happenings event l) =
          sym (append-nil (turn_given (place_of_call l.connections) rs)) in
          record {
            owes = subst (λ (xs : List GivenItems). Owes (gs ++ xs) (after_call_event event l)) given
                (turn_owes rs m gs (with_state l event gs h.owes));
            pasts = happened_made event l h.pasts;
            due = replied_due rs m h.due;
          };
      short = λ narrow gs h. (short narrow, tt);
    }

-- ---- all events

what_moves : (w : WhatValue) (l : LoneInstance) → Moves (IsNarrowWhat w) l (happenings_by w l) (effect_of w l)
what_moves (opened c) l = opened_moves c l
what_moves (received c bytes) l =
    let m : LoneInstance = after_bytes_on c bytes l in
    then_moves l m (after_call_event start_jobs m) (happenings_of_bytes c bytes l) (turn_happenings start_jobs m) (came_moves c bytes l)
    (turn_moves start_jobs m (λ narrow. tt))
what_moves (took c n) l = took_moves c n l
what_moves (closed c) l = closed_moves c l
what_moves tick l =
    let m : LoneInstance = after_call_event time_passes l in
    then_moves l m (after_call_event end_late_jobs m) (TimePassed ∷ []) (turn_happenings end_late_jobs m)
    (unanswered l m TimePassed refl refl tt (limits_after l.state time_passes) refl) (turn_moves end_late_jobs m (λ narrow. tt))
what_moves (ended job outcome) l = turn_moves (end_job job outcome) l (λ narrow. narrow)

pumped_moves : {N : Type 0} (l : LoneInstance) → Moves N l [] (after_pump l)
pumped_moves l = quietly l (after_pump l) refl (λ gs h. record {
  owes = record {
    owed = all_owed 0 with_pumped gs l.connections (λ p. refl) h.owes.owed;
    below =
        subst (λ (n : ℕ). AreBelow n gs) (sym (all_length with_pumped l.connections)) h.owes.below;
  };
  pasts = pumped_made l h.pasts;
  due = pumped_due l.connections h.due;
})

-- behind the event the instance is at rest
rest_moves : {N : Type 0} (l : LoneInstance) → Moves N l (EventOver ∷ []) (lone_at_rest l)
rest_moves l = unanswered l (lone_at_rest l) EventOver refl refl tt refl refl

-- an event that comes while the parent has these texts
abbrev pub Comes : List Blob → LoneEvent → Type 0
Comes parent e = AreNamed parent × IsNarrow e

where_so : {M N : Type 0} (l m : LoneInstance) (hs : List Happening) → (M → N) → Moves N l hs m → Moves M l hs m
where_so l m hs so h = record { state = h.state; holds = h.holds; short = λ n. h.short (so n) }

accepted_moves : (parent : List Blob) (e : LoneEvent) (l : LoneInstance)
    → Moves (Comes parent e) l (MomentCame parent e.moment ∷ (happenings_by e.what (lone_at_moment e.moment parent l) ++ EventOver ∷ []))
    (after_event parent e l)
accepted_moves parent e l =
    let at : LoneInstance = lone_at_moment e.moment parent l in
    let after : LoneInstance = effect_of e.what at in
    let rest : LoneInstance = lone_at_rest after in
    let hs : List Happening = happenings_by e.what at in
    let moved : Moves (Comes parent e) at hs after = where_so at after hs (λ n. n.1) (what_moves e.what at) in
    let ended : Moves (Comes parent e) after (EventOver ∷ []) (after_event parent e l) =
    then_moves after rest (after_event parent e l) (EventOver ∷ []) [] (rest_moves after) (pumped_moves rest) in
    then_moves l at (after_event parent e l) (MomentCame parent e.moment ∷ []) (hs ++ EventOver ∷ [])
    (came_moves_at parent e.moment l (λ n. n.0)) (then_moves at after (after_event parent e l) hs (EventOver ∷ []) moved ended)

unless_moves : (parent : List Blob) (e : LoneEvent) (l : LoneInstance) (o : Option EventRefusal) →
    Moves (Comes parent e) l (happenings_unless parent e l o) (after_event_unless parent e l o)
unless_moves parent e l None = accepted_moves parent e l
unless_moves parent e l (Some refusal) = quietly l l refl (λ gs h. h)

pub step_moves : (parent : List Blob) (e : LoneEvent) (l : LoneInstance) →
    Moves (Comes parent e) l (step_happenings parent e l) (lone_step parent e l)
step_moves parent e l = unless_moves parent e l (refusal_of e l)

-- ---- a run of an instance and its parent

-- the two keep their limits, and no message of these events is too long
abbrev pub HasNarrowEvents : FamilyRun → List FamilyEvent → Type 0
HasNarrowEvents f es = FamilyKeeps f × AllByRecursion IsNarrow (map event_in es)

family_moves : (f : FamilyRun) (e : FamilyEvent) →
    Moves (FamilyKeeps f × IsNarrow (event_in e)) f.own.lone (family_happenings f e) (family_step f e).own.lone
family_moves f (own_event e) =
    where_so f.own.lone (lone_step (texts_of_parent f.parent) e f.own.lone) (step_happenings (texts_of_parent f.parent) e f.own.lone)
    (λ n. (named_beside f.parent n.0.beside, n.1)) (step_moves (texts_of_parent f.parent) e f.own.lone)
family_moves f (parent_event e) = quietly f.own.lone f.own.lone refl (λ gs h. h)

pub run_moves : (f : FamilyRun) (es : List FamilyEvent) →
    Moves (HasNarrowEvents f es) f.own.lone (happenings f es) (fold family_step f es).own.lone
run_moves f [] = quietly f.own.lone f.own.lone refl (λ gs h. h)
run_moves f (e ∷ es) =
    let next : FamilyRun = family_step f e in
    let last : LoneInstance = (fold family_step next es).own.lone in
    then_moves f.own.lone next.own.lone last (family_happenings f e) (happenings next es)
    (where_so f.own.lone next.own.lone (family_happenings f e) (λ n. (n.0, n.1.0)) (family_moves f e))
    (where_so next.own.lone last (happenings next es) (λ n. (step_keeps f e n.1.0 n.0, n.1.1)) (run_moves next es))

pub first_holds : (name : List ℕ) (quota slots : ℕ) (limits : LimitsValue) → Holds [] (new_lone name quota slots limits)
first_holds name quota slots limits = record { owes = record { owed = tt; below = tt }; pasts = tt; due = tt }
