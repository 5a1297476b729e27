-- The frames that were received on a connection are those of its text, in order.
use Rattle.std.proofs.Common.{◌≡◌, ℕ, List, [], ◌∷◌, ◌++◌, refl, ap, ◌∙◌, sym, subst, append_assoc, length, inl, inr}
use Rattle.std.specs.Prelude.{Bool, true, false, cond, map, drop, fold, Option, Some, None, option_map, Result, Ok, Err}
use Rattle.std.specs.List.{AllByRecursion}
use Rattle.std.specs.Option.{option_map_or}
use Rattle.std.proofs.lemmas.Bool.{cases_Bool}
use Rattle.std.proofs.lemmas.List.Elements.{filter_map-append}
use Rattle.conn_core.specs.ReaderConstants.{CLIENT_PREFACE}
use Rattle.conn_core.specs.ErrorCode.{ErrorCode}
use Rattle.conn_core.specs.FrameError.{FrameError}
use Rattle.conn_core.specs.RawFrame.{RawFrame}
use Rattle.conn_core.specs.Reading.{split}
use Rattle.conn_core.proofs.MoreBytes.{more_frames}
use Rattle.conn_core.specs.History.{Entry, Unreadable, Out, has_failed, highest_stream}
use Rattle.conn_core.specs.Rules.{reading_fault}
use Rattle.grpc_sending.specs.Owed.{OwedItem, Item}
use Rattle.grpc_sending.specs.Pump.{history_after_pump}
use Rattle.grpc_sending.proofs.Histories.{append-nil}
use Rattle.conn_core.specs.Frame.{Frame}
use Rattle.conn_core.specs.declared.event.CallEvent.{CallEvent}
use Rattle.conn_core.specs.Calls.{cancels}
use Rattle.conn_core.proofs.Greeting.{nothing_received}
use Rattle.conn_core.specs.Past.{Past, new_past, with_item, with_frame, with_fault, with_taken, with_pumped, with_bytes}
use Rattle.conn_core.specs.Received.{received_raw_frames, raw_in, outcome, fault_frames}
use Rattle.conn_core.proofs.Answered.{raw_after}
use Rattle.conn_core.proofs.Events.{raw_out, raw_took}
use Rattle.instance_core.specs.Calls.{CallEventValue, tick as time_passes, start_jobs, end_late_jobs, end_job}
use Rattle.instance_core.specs.Replies.{ReplyValue}
use Rattle.instance_core.specs.Answer.{answer, state_after}
use Rattle.server_events.specs.Events.{LoneEvent, WhatValue, opened, received, took, closed, tick, ended}
use Rattle.served_instance.specs.declared.refusal.EventRefusal.{EventRefusal}
use Rattle.served_instance.specs.Connections.{LoneConnection, is_open_at, open_at, at_open, with_closed, at_all_open}
use Rattle.served_instance.specs.Calls.{call_event_on, owed_items, with_items}
use Rattle.served_instance.specs.Lone.{LoneInstance, after_replies, after_call_event, after_call_events, due_at, without_due, after_due_on, after_frame_on, is_over, after_frames_on, after_fault_on, after_end_on, unread_frames, after_reading_on, after_bytes_on, effect_of, lone_at_moment}
use Rattle.served_instance.specs.Refusals.{refusal_of, after_event_unless}
use Rattle.instance_core.specs.Visible.{Blob}
use Rattle.server_core.specs.Families.{FamilyEvent, own_event, parent_event}
use Rattle.server_core.specs.Runs.{FamilyRun, texts_of_parent, family_step}
use Rattle.client_reading.proofs.Choices.{choose, all_append}
use Rattle.client_reading.proofs.Nexts.{pump_keeps}
use Rattle.run_reading.specs.Replies.{ReadsText}
use Rattle.run_reading.proofs.Owes.{open_step, none_open, open_has}

-- ---- what is read of a past: its text and its history

abbrev Key : Type 0
Key = List ℕ × List Entry

abbrev key : Past → Key
key p = (p.text, p.history)

abbrev ReadsKey : Key → Type 0
ReadsKey k = (later : List RawFrame) × ((split CLIENT_PREFACE.now k.0).items ≡ received_raw_frames k.1 ++ later)

abbrev AllRead : List LoneConnection → Type 0
AllRead ks = AllByRecursion (λ (k : LoneConnection). ReadsText k.past) ks

-- a step that changes neither
abbrev KeepsKey : (Past → Past) → Type 0
KeepsKey step = (p : Past) → key (step p) ≡ key p

items_text : (s : ℕ) (r : ReplyValue) → KeepsKey (with_items s (owed_items r.items))
items_text s r p = with_all (owed_items r.items) p where
  with_all : (items : List Item) (q : Past) → key (with_items s items q) ≡ key q
  with_all [] q = refl
  with_all (item ∷ items) q = with_all items (with_item q s item)

quiet_read : (c : ℕ) (step : Past → Past) (ks : List LoneConnection) → KeepsKey step → AllRead ks → AllRead (at_open c step ks)
quiet_read c step [] keeps h = tt
quiet_read c step (k ∷ ks) keeps h = choose AllRead (is_open_at c k) (record k { past = step k.past } ∷ ks) (k ∷ at_open c step ks)
    (λ _. (subst ReadsKey (sym (keeps k.past)) h.0, h.1)) (λ _. (h.0, quiet_read c step ks keeps h.1))

-- a step of the open connection that makes a past of which this is so
step_read : (c : ℕ) (step : Past → Past) (ks : List LoneConnection) →
    ((p : Past) → open_at c ks ≡ Some p → ReadsText p → ReadsText (step p)) → AllRead ks → AllRead (at_open c step ks)
step_read c step [] makes h = tt
step_read c step (k ∷ ks) makes h = elim (cases_Bool (is_open_at c k)) [
  | inl here ↦ rw here (makes k.past (rw here refl) h.0, h.1)
  | inr other ↦ rw other (h.0, step_read c step ks (λ p is. makes p (rw other is)) h.1)
]

closed_read : (c : ℕ) (ks : List LoneConnection) → AllRead ks → AllRead (with_closed c ks)
closed_read c [] h = tt
closed_read c (k ∷ ks) h = choose AllRead (is_open_at c k) (record k { is_open = false } ∷ ks) (k ∷ with_closed c ks) (λ _. h)
    (λ _. (h.0, closed_read c ks h.1))

-- ---- calls

replied_read : (rs : List ReplyValue) (l : LoneInstance) → AllRead l.connections → AllRead (after_replies rs l).connections
replied_read [] l h = h
replied_read (r ∷ rs) l h = replied_read rs (record l
    { connections = at_open r.call.connection (with_items r.call.stream (owed_items r.items)) l.connections })
    (quiet_read r.call.connection (with_items r.call.stream (owed_items r.items)) l.connections (items_text r.call.stream r) h)

happened_read : (event : CallEventValue) (l : LoneInstance) → AllRead l.connections → AllRead (after_call_event event l).connections
happened_read event l h = replied_read (answer l.state event).replies (record l { state = state_after l.state event }) h

calls_read : (c : ℕ) (es : List CallEvent) (l : LoneInstance) → AllRead l.connections → AllRead (after_call_events c es l).connections
calls_read c [] l h = h
calls_read c (e ∷ es) l h = calls_read c es (after_call_event (call_event_on c e) l) (happened_read (call_event_on c e) l h)

due_read : (c : ℕ) (l : LoneInstance) → AllRead l.connections → AllRead (after_due_on c l).connections
due_read c l h = calls_read c (due_at c l) (record l { connections = at_open c without_due l.connections })
    (quiet_read c without_due l.connections (λ p. refl) h)

-- ---- the open connection

abbrev open_key : ℕ → List LoneConnection → Option Key
open_key c ks = option_map key (open_at c ks)

same_key : (c d : ℕ) (step : Past → Past) (ks : List LoneConnection) → KeepsKey step → open_key c (at_open d step ks) ≡ open_key c ks
same_key c d step [] keeps = refl
same_key c d step (k ∷ ks) keeps = elim (cases_Bool (is_open_at d k)) [
  | inl here ↦ rw here (head_key (is_open_at c k))
  | inr other ↦ rw other (tail_key (is_open_at c k) (same_key c d step ks keeps))
] where
  head_key : (b : Bool) → option_map key (cond b (Some (step k.past)) (open_at c ks)) ≡ option_map key (cond b (Some k.past) (open_at c ks))
  head_key true = ap Some (keeps k.past)
  head_key false = refl

  tail_key : (b : Bool) → open_key c (at_open d step ks) ≡ open_key c ks →
      option_map key (cond b (Some k.past) (open_at c (at_open d step ks))) ≡ option_map key (cond b (Some k.past) (open_at c ks))
  tail_key true ih = refl
  tail_key false ih = ih

replied_key : (c : ℕ) (rs : List ReplyValue) (l : LoneInstance) → open_key c (after_replies rs l).connections ≡ open_key c l.connections
replied_key c [] l = refl
replied_key c (r ∷ rs) l =
    replied_key c rs (record l { connections = at_open r.call.connection (with_items r.call.stream (owed_items r.items)) l.connections })
    ∙ same_key c r.call.connection (with_items r.call.stream (owed_items r.items)) l.connections (items_text r.call.stream r)

calls_key : (c : ℕ) (es : List CallEvent) (l : LoneInstance) → open_key c (after_call_events c es l).connections ≡ open_key c l.connections
calls_key c [] l = refl
calls_key c (e ∷ es) l =
    calls_key c es (after_call_event (call_event_on c e) l)
    ∙ replied_key c (answer l.state (call_event_on c e)).replies (record l { state = state_after l.state (call_event_on c e) })

due_key : (c : ℕ) (l : LoneInstance) → open_key c (after_due_on c l).connections ≡ open_key c l.connections
due_key c l = calls_key c (due_at c l) (record l { connections = at_open c without_due l.connections })
    ∙ same_key c c without_due l.connections (λ p. refl)

-- these frames are still to be read on the open connection
abbrev LeftAt : List RawFrame → Option Key → Type 0
LeftAt fs None = Unit {0}
LeftAt fs (Some k) = (split CLIENT_PREFACE.now k.0).items ≡ received_raw_frames k.1 ++ fs

abbrev Left : ℕ → List RawFrame → LoneInstance → Type 0
Left c fs l = LeftAt fs (open_key c l.connections)

-- ---- frames

frame_left : (f : RawFrame) (fs : List RawFrame) (p : Past) → LeftAt (f ∷ fs) (Some (key p)) → LeftAt fs (Some (key (with_frame p f)))
frame_left f fs p h = h ∙ sym (append_assoc (received_raw_frames p.history) (f ∷ []) fs)
    ∙ ap (λ (rs : List RawFrame). rs ++ fs) (sym (raw_after p.history f (outcome p.history f).put))

left_after : (c : ℕ) (f : RawFrame) (fs : List RawFrame) (l : LoneInstance) → Left c (f ∷ fs) l → Left c fs (after_frame_on c f l)
left_after c f fs l h = subst (LeftAt fs) (sym (due_key c m)) (found (open_at c l.connections) refl) where
  m : LoneInstance
  m = record l { connections = at_open c (λ p. with_frame p f) l.connections }

  found : (o : Option Past) → open_at c l.connections ≡ o → LeftAt fs (open_key c (at_open c (λ p. with_frame p f) l.connections))
  found None is = subst (λ (o : Option Past). LeftAt fs (option_map key o)) (sym (none_open c (λ p. with_frame p f) l.connections is)) tt
  found (Some p) is =
      let left : LeftAt (f ∷ fs) (Some (key p)) = subst (λ (o : Option Past). LeftAt (f ∷ fs) (option_map key o)) is h in
      subst (λ (o : Option Past). LeftAt fs (option_map key o)) (sym (open_step c (λ p. with_frame p f) l.connections p is))
      (frame_left f fs p left)

frame_reads : (c : ℕ) (f : RawFrame) (fs : List RawFrame) (l : LoneInstance) → Left c (f ∷ fs) l → AllRead l.connections →
    AllRead (after_frame_on c f l).connections
frame_reads c f fs l left h =
    due_read c (record l { connections = at_open c (λ p. with_frame p f) l.connections })
    (step_read c (λ p. with_frame p f) l.connections
    (λ p is _. (fs, frame_left f fs p (subst (λ (o : Option Past). LeftAt (f ∷ fs) (option_map key o)) is left))) h)

frames_read_on : (c : ℕ) (fs : List RawFrame) (l : LoneInstance) → Left c fs l → AllRead l.connections →
    AllRead (after_frames_on c fs l).connections
frames_read_on c [] l left h = h
frames_read_on c (f ∷ fs) l left h = elim (cases_Bool (is_over c l)) [
  | inl over ↦ rw over h
  | inr fine ↦ rw fine (frames_read_on c fs (after_frame_on c f l) (left_after c f fs l left) (frame_reads c f fs l left h))
]

-- ---- bytes that are no frame

same_frames : (d e : List Entry) (text : List ℕ) → received_raw_frames e ≡ received_raw_frames d → ReadsKey (text, d) → ReadsKey (text, e)
same_frames d e text same h = (h.0, h.1 ∙ ap (λ (rs : List RawFrame). rs ++ h.0) (sym same))

raw_fault : (d : List Entry) (e : FrameError) (fs : List Frame) →
    received_raw_frames (d ++ Unreadable e ∷ map Out fs) ≡ received_raw_frames d
raw_fault d e fs =
    ap received_raw_frames (sym (append_assoc d (Unreadable e ∷ []) (map Out fs))) ∙ raw_out (d ++ Unreadable e ∷ []) fs
    ∙ (filter_map-append raw_in d (Unreadable e ∷ []) ∙ append-nil (received_raw_frames d))

fault_reads : (c : ℕ) (e : FrameError) (l : LoneInstance) (o : Option ErrorCode) → AllRead l.connections →
    AllRead (after_fault_on c e l o).connections
fault_reads c e l None h = h
fault_reads c e l (Some code) h =
    due_read c (record l { connections = at_open c (λ p. with_fault p e code) l.connections })
    (step_read c (λ p. with_fault p e code) l.connections
    (λ p is reads. same_frames p.history (with_fault p e code).history p.text
    (raw_fault p.history e (fault_frames (has_failed p.history) (highest_stream p.history) code)) reads) h)

end_reads : (c : ℕ) (r : Result (List ℕ) FrameError) (l : LoneInstance) → AllRead l.connections → AllRead (after_end_on c r l).connections
end_reads c (Ok rest) l h = h
end_reads c (Err e) l h = choose (λ (m : LoneInstance). AllRead m.connections) (is_over c l) l (after_fault_on c e l (reading_fault e))
    (λ _. h) (λ _. fault_reads c e l (reading_fault e) h)

drop_front : {A : Type 0} (xs ys : List A) → drop (length xs) (xs ++ ys) ≡ ys
drop_front [] ys = refl
drop_front (x ∷ xs) ys = drop_front xs ys

all_left : (p : Past) → ReadsText p → LeftAt (unread_frames p) (Some (key p))
all_left p h =
    let rest : unread_frames p ≡ h.0 = ap (drop (length (received_raw_frames p.history))) h.1
    ∙ drop_front (received_raw_frames p.history) h.0 in
    h.1 ∙ ap (λ (fs : List RawFrame). received_raw_frames p.history ++ fs) (sym rest)

open_reads : (c : ℕ) (ks : List LoneConnection) (p : Past) → open_at c ks ≡ Some p → AllRead ks → ReadsText p
open_reads c ks p is h = open_has ReadsText c ks p is h

all_reads : (c : ℕ) (l : LoneInstance) (o : Option Past) → open_at c l.connections ≡ o → AllRead l.connections →
    AllRead (after_reading_on c l o).connections
all_reads c l None is h = h
all_reads c l (Some p) is h =
    let left : Left c (unread_frames p) l = subst (λ (o : Option Past). LeftAt (unread_frames p) (option_map key o)) (sym is)
    (all_left p (open_reads c l.connections p is h)) in
    end_reads c (split CLIENT_PREFACE.now p.text).end (after_frames_on c (unread_frames p) l) (frames_read_on c (unread_frames p) l left h)

more_read : (bytes : List ℕ) (p : Past) → ReadsText p → ReadsText (with_bytes bytes p)
more_read bytes p h =
    let more = more_frames CLIENT_PREFACE.now p.text bytes in
    (h.0 ++ more.0, more.1 ∙ ap (λ (fs : List RawFrame). fs ++ more.0) h.1 ∙ append_assoc (received_raw_frames p.history) h.0 more.0)

came_reads : (c : ℕ) (bytes : List ℕ) (l : LoneInstance) → AllRead l.connections → AllRead (after_bytes_on c bytes l).connections
came_reads c bytes l h =
    let m : LoneInstance = record l { connections = at_open c (with_bytes bytes) l.connections } in
    all_reads c m (open_at c m.connections) refl (step_read c (with_bytes bytes) l.connections (λ p is reads. more_read bytes p reads) h)

-- ---- the other events

first_read : (window : ℕ) → ReadsText (new_past window)
first_read window = (
  (split CLIENT_PREFACE.now []).items,
  ap (λ (fs : List RawFrame). fs ++ (split CLIENT_PREFACE.now []).items)
      (sym (nothing_received window)),
)

acted_reads : (w : WhatValue) (l : LoneInstance) → AllRead l.connections → AllRead (effect_of w l).connections
acted_reads (opened c) l h = all_append (λ (k : LoneConnection). ReadsText k.past) l.connections
    (record { number = c; past = new_past l.state.limits.window; is_open = true } ∷ []) h (first_read l.state.limits.window, tt)
acted_reads (received c bytes) l h = happened_read start_jobs (after_bytes_on c bytes l) (came_reads c bytes l h)
acted_reads (took c n) l h = step_read c (λ p. with_taken p n) l.connections
    (λ p is reads. same_frames p.history (with_taken p n).history p.text (raw_took p.history n) reads) h
acted_reads (closed c) l h = calls_read c (option_map_or (λ (p : Past). cancels p.history) (open_at c l.connections) [])
    (record l { connections = with_closed c l.connections }) (closed_read c l.connections h)
acted_reads tick l h = happened_read end_late_jobs (after_call_event time_passes l) h
acted_reads (ended job outcome) l h = happened_read (end_job job outcome) l h

pumped_raw : (d : List Entry) (os : List OwedItem) → received_raw_frames (history_after_pump d os) ≡ received_raw_frames d
pumped_raw d os = pump_keeps (λ (e : List Entry). received_raw_frames e ≡ received_raw_frames d) os
    (λ e fs next same. raw_out e fs ∙ same) d refl

pumped_reads : (ks : List LoneConnection) → AllRead ks → AllRead (at_all_open with_pumped ks)
pumped_reads [] h = tt
pumped_reads (k ∷ ks) h = (
  choose (λ (j : LoneConnection). ReadsText j.past) k.is_open (record k { past = with_pumped k.past }) k
      (λ _. same_frames k.past.history (with_pumped k.past).history k.past.text (pumped_raw k.past.history k.past.owed) h.0)
      (λ _. h.0),
  pumped_reads ks h.1,
)

step_reads : (parent : List Blob) (e : LoneEvent) (l : LoneInstance) (o : Option EventRefusal) → AllRead l.connections →
    AllRead (after_event_unless parent e l o).connections
step_reads parent e l None h = pumped_reads (effect_of e.what (lone_at_moment e.moment parent l)).connections
    (acted_reads e.what (lone_at_moment e.moment parent l) h)
step_reads parent e l (Some refusal) h = h

pub run_reads : (f : FamilyRun) (es : List FamilyEvent) → AllRead f.own.lone.connections →
    AllByRecursion (λ (k : LoneConnection). ReadsText k.past) (fold family_step f es).own.lone.connections
run_reads f [] h = h
run_reads f (own_event e ∷ es) h = run_reads (family_step f (own_event e)) es
    (step_reads (texts_of_parent f.parent) e f.own.lone (refusal_of e f.own.lone) h)
run_reads f (parent_event e ∷ es) h = run_reads (family_step f (parent_event e)) es h
