-- An instance by itself keeps its limits, event after event.
use Rattle.std.proofs.Common.{ℕ, List, [], ◌∷◌, sym, subst, inl, inr}
use Rattle.std.specs.Prelude.{Bool, true, false, cond, Option, Some, None, Result, Ok, Err}
use Rattle.std.specs.Option.{option_map_or}
use Rattle.std.specs.List.{AllByRecursion}
use Rattle.std.proofs.lemmas.Bool.{cases_Bool}
use Rattle.conn_core.specs.ErrorCode.{ErrorCode}
use Rattle.conn_core.specs.FrameError.{FrameError}
use Rattle.conn_core.specs.RawFrame.{RawFrame}
use Rattle.conn_core.specs.ReaderConstants.{CLIENT_PREFACE}
use Rattle.conn_core.specs.Reading.{split}
use Rattle.conn_core.specs.Rules.{reading_fault}
use Rattle.conn_core.specs.declared.event.CallEvent.{CallEvent}
use Rattle.conn_core.specs.Calls.{cancels}
use Rattle.conn_core.specs.Past.{Past, new_past, with_frame, with_fault, with_taken, with_pumped, with_bytes}
use Rattle.instance_core.specs.Calls.{CallEventValue, tick as time_passes, start_jobs, end_late_jobs, end_job, IsShortEvent}
use Rattle.instance_core.specs.Visible.{Blob}
use Rattle.instance_core.specs.Naming.{Names}
use Rattle.instance_core.specs.State.{seeing, InstanceState, IsInstanceWithin, at_moment}
use Rattle.instance_core.specs.Answer.{answer, state_after}
use Rattle.instance_core.specs.Replies.{ReplyValue}
use Rattle.server_events.specs.Events.{LoneEvent, WhatValue, opened, received, took, closed, tick, ended}
use Rattle.served_instance.specs.declared.refusal.EventRefusal.{EventRefusal}
use Rattle.served_instance.specs.Connections.{LoneConnection, is_open_at, open_at, at_open, with_closed, at_all_open}
use Rattle.served_instance.specs.Calls.{call_event_on, owed_items, with_items}
use Rattle.served_instance.specs.Lone.{LoneInstance, after_replies, after_call_event, after_call_events, due_at, without_due, after_due_on, after_frame_on, is_over, after_frames_on, after_fault_on, after_end_on, unread_frames, after_reading_on, after_bytes_on, after_opening, after_closing, effect_of, lone_at_moment, after_event}
use Rattle.served_instance.specs.Narrow.{IsNarrowWhat}
use Rattle.served_instance.specs.Refusals.{after_event_unless}
use Rattle.served_instance.proofs.Commutes.{items_keep_due}
use Rattle.instance_core.proofs.NamedTexts.{all_append}
use Rattle.instance_core.proofs.EventLimits.{after_keeps}
use Rattle.served_instance.proofs.Brought.{IsShortCall, short_on, cancels_short, DueShort, frame_short, fault_short}

-- ---- connections

abbrev pub AreDueShort : List LoneConnection → Type 0
AreDueShort ks = AllByRecursion (λ (k : LoneConnection). DueShort k.past) ks

at_open_short : (c : ℕ) (step : Past → Past) → ((p : Past) → DueShort p → DueShort (step p)) → (ks : List LoneConnection) → AreDueShort ks →
    AreDueShort (at_open c step ks)
at_open_short c step keeps [] short = tt
at_open_short c step keeps (k ∷ ks) short = elim (cases_Bool (is_open_at c k)) [
  | inl at ↦ rw at (keeps k.past short.0, short.1)
  | inr off ↦ rw off (short.0, at_open_short c step keeps ks short.1)
]

closed_short : (c : ℕ) (ks : List LoneConnection) → AreDueShort ks → AreDueShort (with_closed c ks)
closed_short c [] short = tt
closed_short c (k ∷ ks) short = elim (cases_Bool (is_open_at c k)) [
  | inl at ↦ rw at short
  | inr off ↦ rw off (short.0, closed_short c ks short.1)
]

if_open_short : (step : Past → Past) (k : LoneConnection) (b : Bool) → DueShort k.past → DueShort (step k.past) →
    DueShort (cond b (record k { past = step k.past }) k).past
if_open_short step k true old new = new
if_open_short step k false old new = old

all_open_short : (step : Past → Past) → ((p : Past) → DueShort p → DueShort (step p)) → (ks : List LoneConnection) → AreDueShort ks →
    AreDueShort (at_all_open step ks)
all_open_short step keeps [] short = tt
all_open_short step keeps (k ∷ ks) short = (
  if_open_short step k k.is_open short.0
      (keeps k.past short.0),
  all_open_short step keeps ks short.1,
)

due_short : (c : ℕ) (ks : List LoneConnection) → AreDueShort ks →
    AllByRecursion IsShortCall (option_map_or (λ (p : Past). p.due) (open_at c ks) [])
due_short c [] short = tt
due_short c (k ∷ ks) short = elim (cases_Bool (is_open_at c k)) [
  | inl at ↦ rw at short.0
  | inr off ↦ rw off (due_short c ks short.1)
]

cancels_of_short : (o : Option Past) → AllByRecursion IsShortCall (option_map_or (λ (p : Past). cancels p.history) o [])
cancels_of_short None = tt
cancels_of_short (Some p) = cancels_short p.history

-- ---- one instance

pub record KeepsLimits (l : LoneInstance) : Type 0 where
  pub within : IsInstanceWithin l.state
  pub short : AreDueShort l.connections

abbrev pub Keeps : LoneInstance → LoneInstance → Type 0
Keeps l m = KeepsLimits l → KeepsLimits m

items_short : (s : ℕ) (reply : ReplyValue) (p : Past) → DueShort p → DueShort (with_items s (owed_items reply.items) p)
items_short s reply p short = subst (λ (es : List CallEvent). AllByRecursion IsShortCall es)
    (sym (items_keep_due s (owed_items reply.items) p)) short

replied_keeps : (replies : List ReplyValue) (l : LoneInstance) → Keeps l (after_replies replies l)
replied_keeps [] l h = h
replied_keeps (reply ∷ replies) l h =
    replied_keeps replies (record l {
      connections =
          at_open reply.call.connection (with_items reply.call.stream (owed_items reply.items)) l.connections;
    }) (record {
      within = h.within;
      short = at_open_short reply.call.connection (with_items reply.call.stream (owed_items reply.items))
          (items_short reply.call.stream reply) l.connections h.short;
    })

pub happened_keeps : (event : CallEventValue) (l : LoneInstance) → IsShortEvent event → Keeps l (after_call_event event l)
happened_keeps event l short h =
    replied_keeps (answer l.state event).replies (record l { state = state_after l.state event })
    (record { within = after_keeps l.state event short h.within; short = h.short })

all_happened_keep : (c : ℕ) (events : List CallEvent) (l : LoneInstance) → AllByRecursion IsShortCall events →
    Keeps l (after_call_events c events l)
all_happened_keep c [] l short h = h
all_happened_keep c (event ∷ events) l short h =
    all_happened_keep c events (after_call_event (call_event_on c event) l) short.1
    (happened_keeps (call_event_on c event) l (short_on c event short.0) h)

with_step : (c : ℕ) (step : Past → Past) (l : LoneInstance) → ((p : Past) → DueShort p → DueShort (step p)) →
    Keeps l (record l { connections = at_open c step l.connections })
with_step c step l keeps h = record { within = h.within; short = at_open_short c step keeps l.connections h.short }

due_keeps : (c : ℕ) (l : LoneInstance) → Keeps l (after_due_on c l)
due_keeps c l h = all_happened_keep c (due_at c l) (record l { connections = at_open c without_due l.connections })
    (due_short c l.connections h.short) (with_step c without_due l (λ p short. tt) h)

frame_keeps : (c : ℕ) (f : RawFrame) (l : LoneInstance) → Keeps l (after_frame_on c f l)
frame_keeps c f l h = due_keeps c (record l { connections = at_open c (λ p. with_frame p f) l.connections })
    (with_step c (λ p. with_frame p f) l (frame_short f) h)

frames_keep : (c : ℕ) (fs : List RawFrame) (l : LoneInstance) → Keeps l (after_frames_on c fs l)
frames_keep c [] l h = h
frames_keep c (f ∷ fs) l h = elim (cases_Bool (is_over c l)) [
  | inl over ↦ rw over h
  | inr goes_on ↦ rw goes_on (frames_keep c fs (after_frame_on c f l) (frame_keeps c f l h))
]

fault_keeps : (c : ℕ) (e : FrameError) (l : LoneInstance) (code : Option ErrorCode) → Keeps l (after_fault_on c e l code)
fault_keeps c e l None h = h
fault_keeps c e l (Some code) h =
    due_keeps c (record l { connections = at_open c (λ p. with_fault p e code) l.connections })
    (with_step c (λ p. with_fault p e code) l (fault_short e code) h)

end_keeps : (c : ℕ) (end : Result (List ℕ) FrameError) (l : LoneInstance) → Keeps l (after_end_on c end l)
end_keeps c (Ok rest) l h = h
end_keeps c (Err e) l h = elim (cases_Bool (is_over c l)) [
  | inl over ↦ rw over h
  | inr goes_on ↦ rw goes_on (fault_keeps c e l (reading_fault e) h)
]

read_keeps : (c : ℕ) (l : LoneInstance) (p : Option Past) → Keeps l (after_reading_on c l p)
read_keeps c l None h = h
read_keeps c l (Some p) h = end_keeps c (split CLIENT_PREFACE.now p.text).end (after_frames_on c (unread_frames p) l)
    (frames_keep c (unread_frames p) l h)

pub bytes_keep : (c : ℕ) (bytes : List ℕ) (l : LoneInstance) → Keeps l (after_bytes_on c bytes l)
bytes_keep c bytes l h =
    let m : LoneInstance = record l { connections = at_open c (with_bytes bytes) l.connections } in
    read_keeps c m (open_at c m.connections) (with_step c (with_bytes bytes) l (λ p short. short) h)

closed_keeps : (c : ℕ) (l : LoneInstance) → Keeps l (after_closing c l)
closed_keeps c l h =
    all_happened_keep c (option_map_or (λ p. cancels p.history) (open_at c l.connections) [])
    (record l { connections = with_closed c l.connections }) (cancels_of_short (open_at c l.connections))
    (record { within = h.within; short = closed_short c l.connections h.short })

opened_keeps : (c : ℕ) (l : LoneInstance) → Keeps l (after_opening c l)
opened_keeps c l h = record {
  within = h.within;
  short = all_append (λ (k : LoneConnection). DueShort k.past) l.connections
      (record { number = c; past = new_past l.state.limits.window; is_open = true } ∷ []) h.short (tt, tt);
}

acted_keeps : (what : WhatValue) (l : LoneInstance) → IsNarrowWhat what → Keeps l (effect_of what l)
acted_keeps (opened c) l narrow h = opened_keeps c l h
acted_keeps (received c bytes) l narrow h = happened_keeps start_jobs (after_bytes_on c bytes l) tt (bytes_keep c bytes l h)
acted_keeps (took c n) l narrow h = with_step c (λ p. with_taken p n) l (λ p short. short) h
acted_keeps (closed c) l narrow h = closed_keeps c l h
acted_keeps tick l narrow h = happened_keeps end_late_jobs (after_call_event time_passes l) tt (happened_keeps time_passes l tt h)
acted_keeps (ended job outcome) l narrow h = happened_keeps (end_job job outcome) l narrow h

pub moment_within : (moment : ℕ) (s : InstanceState) → IsInstanceWithin s → IsInstanceWithin (at_moment moment s)
moment_within moment s w = record {
  quota = w.quota;
  limits = w.limits;
  texts = w.texts;
  uploads = w.uploads;
  results = w.results;
  slots =
      w.slots;
  jobs = w.jobs;
  running = w.running;
  whole = w.whole;
  told = w.told;
  calls = w.calls;
  messages = w.messages;
  parent = w.parent;
}

abbrev pub AreNamed : List Blob → Type 0
AreNamed bs = AllByRecursion (λ (b : Blob). Names b.0 b.1) bs

pub seeing_within : (parent : List Blob) (s : InstanceState) → AreNamed parent → IsInstanceWithin s → IsInstanceWithin (seeing parent s)
seeing_within parent s named w = record {
  quota = w.quota;
  limits = w.limits;
  texts = w.texts;
  uploads = w.uploads;
  results = w.results;
  slots = w.slots;
  jobs = w.jobs;
  running = w.running;
  whole = w.whole;
  told = w.told;
  calls = w.calls;
  messages = w.messages;
  parent =
      named;
}

accepted_keeps : (parent : List Blob) (e : LoneEvent) (l : LoneInstance) → AreNamed parent → IsNarrowWhat e.what →
    Keeps l (after_event parent e l)
accepted_keeps parent e l named narrow h =
    let m = acted_keeps e.what (lone_at_moment e.moment parent l) narrow
    (record {
      within = seeing_within parent (at_moment e.moment l.state) named (moment_within e.moment l.state h.within);
      short =
          h.short;
    }) in
    record {
      within = seeing_within [] (effect_of e.what (lone_at_moment e.moment parent l)).state tt m.within;
      short = all_open_short with_pumped (λ p short. short) (effect_of e.what (lone_at_moment e.moment parent l)).connections m.short;
    }

pub stepped_keeps : (parent : List Blob) (e : LoneEvent) (l : LoneInstance) (o : Option EventRefusal) → AreNamed parent →
    IsNarrowWhat e.what → Keeps l (after_event_unless parent e l o)
stepped_keeps parent e l None named narrow h = accepted_keeps parent e l named narrow h
stepped_keeps parent e l (Some refusal) named narrow h = h
