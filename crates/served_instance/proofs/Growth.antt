-- What an event makes of connections beside what it says of its own: their histories grow, and no
-- more is taken.
use Rattle.std.proofs.Common.{◌≡◌, ℕ, List, [], ◌∷◌, ◌++◌, refl, ap, ◌∙◌, sym, append_assoc, arith, inl, inr}
use Rattle.std.specs.Prelude.{Bool, true, false, cond, map, Option, Some, None, Result, Ok, Err}
use Rattle.std.proofs.lemmas.Bool.{cases_Bool, true≢false}
use Rattle.std.proofs.lemmas.List.Sums.{sum_by-append}
use Rattle.conn_core.specs.ErrorCode.{ErrorCode}
use Rattle.conn_core.specs.FrameError.{FrameError}
use Rattle.conn_core.specs.Frame.{Frame}
use Rattle.conn_core.specs.RawFrame.{RawFrame}
use Rattle.conn_core.specs.ReaderConstants.{CLIENT_PREFACE}
use Rattle.conn_core.specs.Reading.{split}
use Rattle.conn_core.specs.History.{Entry, Out, has_failed}
use Rattle.conn_core.specs.Rules.{reading_fault}
use Rattle.grpc_sending.specs.Bytes.{count_taken, count_taken_by}
use Rattle.grpc_sending.specs.Owed.{Item}
use Rattle.grpc_sending.proofs.Histories.{append-nil}
use Rattle.conn_core.specs.declared.event.CallEvent.{CallEvent}
use Rattle.conn_core.specs.Received.{outcome, frame_entries, fault_frames, fault_entries}
use Rattle.conn_core.specs.History.{highest_stream}
use Rattle.conn_core.specs.Calls.{cancels}
use Rattle.conn_core.specs.Past.{Past, new_past, with_frame, with_fault, with_item, with_taken, with_pumped, with_bytes}
use Rattle.conn_core.proofs.Pumps.{pumped_is}
use Rattle.instance_core.specs.Calls.{CallEventValue, tick as time_passes, start_jobs, end_late_jobs, end_job}
use Rattle.instance_core.specs.Answer.{answer, state_after}
use Rattle.instance_core.specs.Replies.{ReplyValue}
use Rattle.server_events.specs.Events.{LoneEvent, WhatValue, opened, received, took, closed, tick, ended}
use Rattle.std.specs.Option.{option_map_or}
use Rattle.served_instance.specs.Connections.{LoneConnection, is_open_at, open_at, at_open, with_closed, at_all_open}
use Rattle.served_instance.specs.Calls.{call_event_on, owed_items, with_items}
use Rattle.instance_core.specs.Visible.{Blob}
use Rattle.served_instance.specs.Lone.{LoneInstance, after_replies, after_call_event, after_call_events, due_at, without_due, after_due_on, after_frame_on, is_over, after_frames_on, after_fault_on, after_end_on, unread_frames, after_reading_on, after_bytes_on, after_opening, effect_of, after_pump, lone_at_moment, after_event}

-- ---- one connection

pub record Grows (p q : Past) : Type 0 where
  pub more : List Entry
  pub history : q.history ≡ p.history ++ more
  pub quiet : count_taken more ≡ 0

grows_same : (p q : Past) → q.history ≡ p.history → Grows p q
grows_same p q same = record { more = []; history = same ∙ sym (append-nil p.history); quiet = refl }

grows_trans : (p q r : Past) → Grows p q → Grows q r → Grows p r
grows_trans p q r a b = record {
  more = a.more ++ b.more;
  history = b.history ∙ ap (λ (d : List Entry). d ++ b.more) a.history ∙ append_assoc p.history a.more b.more;
  quiet = sum_by-append count_taken_by a.more b.more ∙ omega (arith, a.quiet, b.quiet);
}

out_quiet : (fs : List Frame) → count_taken (map Out fs) ≡ 0
out_quiet [] = refl
out_quiet (f ∷ fs) = out_quiet fs

frame_grows : (f : RawFrame) (p : Past) → Grows p (with_frame p f)
frame_grows f p = record { more = frame_entries p.history f; history = refl; quiet = out_quiet (outcome p.history f).put }

fault_grows : (e : FrameError) (code : ErrorCode) (p : Past) → Grows p (with_fault p e code)
fault_grows e code p = record {
  more = fault_entries p.history e code;
  history = refl;
  quiet =
      out_quiet (fault_frames (has_failed p.history) (highest_stream p.history) code);
}

pump_grows : (p : Past) → Grows p (with_pumped p)
pump_grows p =
    let f = pumped_is p.history p.owed in
    record { more = map Out f.0; history = f.1; quiet = out_quiet f.0 }

items_grow : (s : ℕ) (items : List Item) (p : Past) → Grows p (with_items s items p)
items_grow s [] p = grows_same p p refl
items_grow s (item ∷ items) p = grows_trans p (with_item p s item) (with_items s items (with_item p s item))
    (grows_same p (with_item p s item) refl) (items_grow s items (with_item p s item))

-- ---- all connections

pub record HasGrown (k m : LoneConnection) : Type 0 where
  pub number : m.number ≡ k.number
  pub is_open : m.is_open ≡ k.is_open
  pub past : Grows k.past m.past
  -- nothing passes on one that is closed
  pub closed : k.is_open ≡ false → m ≡ k

abbrev pub AreGrown : List LoneConnection → List LoneConnection → Type 0
AreGrown [] [] = Unit {0}
AreGrown (k ∷ ks) (m ∷ ms) = HasGrown k m × AreGrown ks ms
AreGrown ks ms = ⊥

same_grown : (k : LoneConnection) → HasGrown k k
same_grown k = record { number = refl; is_open = refl; past = grows_same k.past k.past refl; closed = λ is. refl }

grown_trans : (k l m : LoneConnection) → HasGrown k l → HasGrown l m → HasGrown k m
grown_trans k l m a b = record {
  number = b.number ∙ a.number;
  is_open = b.is_open ∙ a.is_open;
  past = grows_trans k.past l.past m.past a.past b.past;
  closed = λ is. b.closed (a.is_open ∙ is) ∙ a.closed is;
}

all_same : (ks : List LoneConnection) → AreGrown ks ks
all_same [] = tt
all_same (k ∷ ks) = (same_grown k, all_same ks)

all_trans : (ks ls ms : List LoneConnection) → AreGrown ks ls → AreGrown ls ms → AreGrown ks ms
all_trans [] [] [] a b = tt
all_trans [] [] (m ∷ ms) a b = b
all_trans [] (l ∷ ls) ms a b = absurd a
all_trans (k ∷ ks) [] ms a b = absurd a
all_trans (k ∷ ks) (l ∷ ls) [] a b = absurd b
all_trans (k ∷ ks) (l ∷ ls) (m ∷ ms) a b = (grown_trans k l m a.0 b.0, all_trans ks ls ms a.1 b.1)

stepped_grown : (step : Past → Past) → ((p : Past) → Grows p (step p)) → (k : LoneConnection) → k.is_open ≡ true →
    HasGrown k (record k { past = step k.past })
stepped_grown step grows k at = record {
  number = refl;
  is_open = refl;
  past = grows k.past;
  closed =
      λ is. absurd (true≢false (sym at ∙ is));
}

pub at_is_open : (c : ℕ) (k : LoneConnection) → is_open_at c k ≡ true → k.is_open ≡ true
at_is_open c k at = elim (cases_Bool k.is_open) [
  | inl is ↦ is
  | inr is ↦ let f : is_open_at c k ≡ false = rw is refl in absurd (true≢false (sym at ∙ f))
]

at_open_grows : (c : ℕ) (step : Past → Past) → ((p : Past) → Grows p (step p)) → (ks : List LoneConnection) →
    AreGrown ks (at_open c step ks)
at_open_grows c step grows [] = tt
at_open_grows c step grows (k ∷ ks) = elim (cases_Bool (is_open_at c k)) [
  | inl at ↦ rw at (stepped_grown step grows k (at_is_open c k at), all_same ks)
  | inr off ↦ rw off (same_grown k, at_open_grows c step grows ks)
]

if_open_grown : (step : Past → Past) → ((p : Past) → Grows p (step p)) → (k : LoneConnection) (b : Bool) → k.is_open ≡ b →
    HasGrown k (cond b (record k { past = step k.past }) k)
if_open_grown step grows k true at = stepped_grown step grows k at
if_open_grown step grows k false off = same_grown k

all_open_grow : (step : Past → Past) → ((p : Past) → Grows p (step p)) → (ks : List LoneConnection) → AreGrown ks (at_all_open step ks)
all_open_grow step grows [] = tt
all_open_grow step grows (k ∷ ks) = (if_open_grown step grows k k.is_open refl, all_open_grow step grows ks)

-- ---- one instance

abbrev HasMore : LoneInstance → LoneInstance → Type 0
HasMore l m = AreGrown l.connections m.connections

more_same : (l : LoneInstance) → HasMore l l
more_same l = all_same l.connections

more_trans : (l m n : LoneInstance) → HasMore l m → HasMore m n → HasMore l n
more_trans l m n a b = all_trans l.connections m.connections n.connections a b

abbrev with_reply : ReplyValue → LoneInstance → LoneInstance
with_reply reply l = record l {
  connections = at_open reply.call.connection
      (with_items reply.call.stream (owed_items reply.items)) l.connections;
}

replied_more : (replies : List ReplyValue) (l : LoneInstance) → HasMore l (after_replies replies l)
replied_more [] l = more_same l
replied_more (reply ∷ replies) l =
    more_trans l (with_reply reply l) (after_replies replies (with_reply reply l))
    (at_open_grows reply.call.connection (with_items reply.call.stream (owed_items reply.items))
    (items_grow reply.call.stream (owed_items reply.items)) l.connections)
    (replied_more replies (with_reply reply l))

happened_more : (event : CallEventValue) (l : LoneInstance) → HasMore l (after_call_event event l)
happened_more event l = replied_more (answer l.state event).replies (record l { state = state_after l.state event })

all_happened_more : (c : ℕ) (events : List CallEvent) (l : LoneInstance) → HasMore l (after_call_events c events l)
all_happened_more c [] l = more_same l
all_happened_more c (event ∷ events) l =
    let m : LoneInstance = after_call_event (call_event_on c event) l in
    more_trans l m (after_call_events c events m) (happened_more (call_event_on c event) l) (all_happened_more c events m)

due_more : (c : ℕ) (l : LoneInstance) → HasMore l (after_due_on c l)
due_more c l =
    let m : LoneInstance = record l { connections = at_open c without_due l.connections } in
    more_trans l m (after_due_on c l) (at_open_grows c without_due (λ p. grows_same p (without_due p) refl) l.connections)
    (all_happened_more c (due_at c l) m)

frame_more : (c : ℕ) (f : RawFrame) (l : LoneInstance) → HasMore l (after_frame_on c f l)
frame_more c f l =
    let m : LoneInstance = record l { connections = at_open c (λ p. with_frame p f) l.connections } in
    more_trans l m (after_due_on c m) (at_open_grows c (λ p. with_frame p f) (frame_grows f) l.connections) (due_more c m)

frames_more : (c : ℕ) (fs : List RawFrame) (l : LoneInstance) → HasMore l (after_frames_on c fs l)
frames_more c [] l = more_same l
frames_more c (f ∷ fs) l = elim (cases_Bool (is_over c l)) [
  | inl over ↦ rw over (more_same l)
  | inr goes_on ↦ rw goes_on (more_trans l (after_frame_on c f l) (after_frames_on c fs (after_frame_on c f l)) (frame_more c f l)
      (frames_more c fs (after_frame_on c f l)))
]

fault_more : (c : ℕ) (e : FrameError) (l : LoneInstance) (code : Option ErrorCode) → HasMore l (after_fault_on c e l code)
fault_more c e l None = more_same l
fault_more c e l (Some code) =
    let m : LoneInstance = record l { connections = at_open c (λ p. with_fault p e code) l.connections } in
    more_trans l m (after_due_on c m) (at_open_grows c (λ p. with_fault p e code) (fault_grows e code) l.connections) (due_more c m)

end_more : (c : ℕ) (end : Result (List ℕ) FrameError) (l : LoneInstance) → HasMore l (after_end_on c end l)
end_more c (Ok rest) l = more_same l
end_more c (Err e) l = elim (cases_Bool (is_over c l)) [
  | inl over ↦ rw over (more_same l)
  | inr goes_on ↦ rw goes_on (fault_more c e l (reading_fault e))
]

read_more : (c : ℕ) (l : LoneInstance) (p : Option Past) → HasMore l (after_reading_on c l p)
read_more c l None = more_same l
read_more c l (Some p) =
    let m : LoneInstance = after_frames_on c (unread_frames p) l in
    more_trans l m (after_reading_on c l (Some p)) (frames_more c (unread_frames p) l) (end_more c (split CLIENT_PREFACE.now p.text).end m)

bytes_more : (c : ℕ) (bytes : List ℕ) (l : LoneInstance) → HasMore l (after_bytes_on c bytes l)
bytes_more c bytes l =
    let m : LoneInstance = record l { connections = at_open c (with_bytes bytes) l.connections } in
    more_trans l m (after_bytes_on c bytes l) (at_open_grows c (with_bytes bytes)
    (λ p. grows_same p (with_bytes bytes p) refl) l.connections) (read_more c m (open_at c m.connections))

-- ---- an event

-- what an event says of its own connection, of an instance with this window
abbrev pub connections_after : ℕ → WhatValue → List LoneConnection → List LoneConnection
connections_after window (opened c) ks = ks ++ record { number = c; past = new_past window; is_open = true } ∷ []
connections_after window (took c n) ks = at_open c (λ p. with_taken p n) ks
connections_after window (closed c) ks = with_closed c ks
connections_after window _ ks = ks

acted_more : (what : WhatValue) (l : LoneInstance) →
    AreGrown (connections_after l.state.limits.window what l.connections) (effect_of what l).connections
acted_more (opened c) l = all_same (after_opening c l).connections
acted_more (received c bytes) l =
    let m = after_bytes_on c bytes l in
    more_trans l m (after_call_event start_jobs m) (bytes_more c bytes l) (happened_more start_jobs m)
acted_more (took c n) l = all_same (at_open c (λ p. with_taken p n) l.connections)
acted_more (closed c) l = all_happened_more c (option_map_or (λ p. cancels p.history) (open_at c l.connections) [])
    (record l { connections = with_closed c l.connections })
acted_more tick l =
    let m = after_call_event time_passes l in
    more_trans l m (after_call_event end_late_jobs m) (happened_more time_passes l) (happened_more end_late_jobs m)
acted_more (ended job outcome) l = happened_more (end_job job outcome) l

pub accepted_more : (parent : List Blob) (e : LoneEvent) (l : LoneInstance) →
    AreGrown (connections_after l.state.limits.window e.what l.connections) (after_event parent e l).connections
accepted_more parent e l =
    let m : LoneInstance = effect_of e.what (lone_at_moment e.moment parent l) in
    all_trans (connections_after l.state.limits.window e.what l.connections) m.connections (after_pump m).connections
    (acted_more e.what (lone_at_moment e.moment parent l)) (all_open_grow with_pumped pump_grows m.connections)
