-- The moment of an instance is that of the last event that it took.
use Rattle.std.proofs.Common.{◌≡◌, ℕ, ◌≤◌, List, [], ◌∷◌, length, refl, ap, ◌∙◌, sym, subst, inl, inr}
use Rattle.std.specs.Prelude.{Bool, false, cond, nat_lt, Option, Some, None, Result, Ok, Err}
use Rattle.std.specs.Option.{option_map, option_map_or}
use Rattle.std.proofs.lemmas.Bool.{cases_Bool, le-ltb}
use Rattle.std.proofs.lemmas.Option.{none-some, same_Some}
use Rattle.conn_core.specs.ErrorCode.{ErrorCode}
use Rattle.conn_core.specs.FrameError.{FrameError}
use Rattle.conn_core.specs.RawFrame.{RawFrame}
use Rattle.conn_core.specs.ReaderConstants.{CLIENT_PREFACE}
use Rattle.conn_core.specs.Reading.{split}
use Rattle.conn_core.specs.Rules.{reading_fault}
use Rattle.grpc_sending.specs.Bytes.{pending_bytes, untaken_count}
use Rattle.conn_core.specs.declared.event.CallEvent.{CallEvent}
use Rattle.conn_core.specs.Calls.{cancels}
use Rattle.conn_core.specs.Past.{Past, with_frame, with_fault, with_bytes}
use Rattle.instance_core.specs.Calls.{CallEventValue, tick as time_passes, start_jobs, end_late_jobs, end_job}
use Rattle.instance_core.specs.State.{InstanceState}
use Rattle.instance_core.specs.Replies.{ReplyValue}
use Rattle.instance_core.specs.Changes.{InstanceChange, Text, Goes, Ends, Wrote, Keeps, Expires, Does, Pushes, Settles, state_after_change, state_after_changes}
use Rattle.instance_core.specs.Answer.{answer, state_after}
use Rattle.server_events.specs.Events.{LoneEvent, WhatValue, opened, received, took, closed, tick, ended}
use Rattle.served_instance.specs.declared.refusal.EventRefusal.{EventRefusal}
use Rattle.served_instance.specs.declared.refusal.EventRefusal.TheVariants.{TimeWentBack, NoSuchConnection, TookTooMuch}
use Rattle.served_instance.specs.Connections.{open_at, at_open, with_closed}
use Rattle.served_instance.specs.Calls.{call_event_on, owed_items, with_items}
use Rattle.instance_core.specs.Visible.{Blob}
use Rattle.served_instance.specs.Lone.{LoneInstance, after_replies, after_call_event, after_call_events, due_at, without_due, after_due_on, after_frame_on, is_over, after_frames_on, after_fault_on, after_end_on, unread_frames, after_reading_on, after_bytes_on, lone_at_moment, effect_of}
use Rattle.served_instance.specs.Refusals.{refusal_of, refusal_of_what, after_event_unless, lone_step}

-- no change is one of the moment
changed_moment : (changes : List InstanceChange) (s : InstanceState) → (state_after_changes changes s).moment ≡ s.moment
changed_moment [] s = refl
changed_moment (Text c ∷ changes) s = changed_moment changes (state_after_change (Text c) s)
changed_moment (Goes id call ∷ changes) s = changed_moment changes (state_after_change (Goes id call) s)
changed_moment (Ends id ∷ changes) s = changed_moment changes (state_after_change (Ends id) s)
changed_moment (Wrote w ∷ changes) s = changed_moment changes (state_after_change (Wrote w) s)
changed_moment (Keeps results ∷ changes) s = changed_moment changes (state_after_change (Keeps results) s)
changed_moment (Expires ∷ changes) s = changed_moment changes (state_after_change Expires s)
changed_moment (Does operation ∷ changes) s = changed_moment changes (state_after_change (Does operation) s)
changed_moment (Pushes job ∷ changes) s = changed_moment changes (state_after_change (Pushes job) s)
changed_moment (Settles steps ∷ changes) s = changed_moment changes (state_after_change (Settles steps) s)

replied_moment : (replies : List ReplyValue) (l : LoneInstance) → (after_replies replies l).state.moment ≡ l.state.moment
replied_moment [] l = refl
replied_moment (reply ∷ replies) l = replied_moment replies
    (record l { connections = at_open reply.call.connection (with_items reply.call.stream (owed_items reply.items)) l.connections })

happened_moment : (event : CallEventValue) (l : LoneInstance) → (after_call_event event l).state.moment ≡ l.state.moment
happened_moment event l =
    replied_moment (answer l.state event).replies (record l { state = state_after l.state event })
    ∙ changed_moment (answer l.state event).changes l.state

all_happened_moment : (c : ℕ) (events : List CallEvent) (l : LoneInstance) → (after_call_events c events l).state.moment ≡ l.state.moment
all_happened_moment c [] l = refl
all_happened_moment c (event ∷ events) l =
    all_happened_moment c events (after_call_event (call_event_on c event) l) ∙ happened_moment (call_event_on c event) l

due_moment : (c : ℕ) (l : LoneInstance) → (after_due_on c l).state.moment ≡ l.state.moment
due_moment c l = all_happened_moment c (due_at c l) (record l { connections = at_open c without_due l.connections })

frames_moment : (c : ℕ) (fs : List RawFrame) (l : LoneInstance) → (after_frames_on c fs l).state.moment ≡ l.state.moment
frames_moment c [] l = refl
frames_moment c (f ∷ fs) l = elim (cases_Bool (is_over c l)) [
  | inl over ↦ rw over refl
  | inr goes_on ↦ rw goes_on (frames_moment c fs (after_frame_on c f l)
      ∙ due_moment c (record l { connections = at_open c (λ p. with_frame p f) l.connections }))
]

fault_moment : (c : ℕ) (e : FrameError) (l : LoneInstance) (code : Option ErrorCode) →
    (after_fault_on c e l code).state.moment ≡ l.state.moment
fault_moment c e l None = refl
fault_moment c e l (Some code) = due_moment c (record l { connections = at_open c (λ p. with_fault p e code) l.connections })

end_moment : (c : ℕ) (end : Result (List ℕ) FrameError) (l : LoneInstance) → (after_end_on c end l).state.moment ≡ l.state.moment
end_moment c (Ok rest) l = refl
end_moment c (Err e) l = elim (cases_Bool (is_over c l)) [
  | inl over ↦ rw over refl
  | inr goes_on ↦ rw goes_on (fault_moment c e l (reading_fault e))
]

read_moment : (c : ℕ) (l : LoneInstance) (p : Option Past) → (after_reading_on c l p).state.moment ≡ l.state.moment
read_moment c l None = refl
read_moment c l (Some p) =
    end_moment c (split CLIENT_PREFACE.now p.text).end (after_frames_on c (unread_frames p) l) ∙ frames_moment c (unread_frames p) l

acted_moment : (what : WhatValue) (l : LoneInstance) → (effect_of what l).state.moment ≡ l.state.moment
acted_moment (opened c) l = refl
acted_moment (received c bytes) l =
    let m : LoneInstance = record l { connections = at_open c (with_bytes bytes) l.connections } in
    happened_moment start_jobs (after_bytes_on c bytes l) ∙ read_moment c m (open_at c m.connections)
acted_moment (took c n) l = refl
acted_moment (closed c) l = all_happened_moment c (option_map_or (λ p. cancels p.history) (open_at c l.connections) [])
    (record l { connections = with_closed c l.connections })
acted_moment tick l = happened_moment end_late_jobs (after_call_event time_passes l) ∙ happened_moment time_passes l
acted_moment (ended job outcome) l = happened_moment (end_job job outcome) l

stepped_within : (parent : List Blob) (e : LoneEvent) (l : LoneInstance) (m : ℕ) (refusal : Option EventRefusal) → e.moment ≤ m →
    l.state.moment ≤ m → (after_event_unless parent e l refusal).state.moment ≤ m
stepped_within parent e l m None le late = subst (λ (n : ℕ). n ≤ m) (sym (acted_moment e.what (lone_at_moment e.moment parent l))) le
stepped_within parent e l m (Some refusal) le late = late

-- after an event an instance is not later than the event and than it was
pub step_within : (parent : List Blob) (e : LoneEvent) (l : LoneInstance) (m : ℕ) → e.moment ≤ m → l.state.moment ≤ m →
    (lone_step parent e l).state.moment ≤ m
step_within parent e l m le late = stepped_within parent e l m (refusal_of e l) le late

-- ---- that bytes were taken is not refused

off : {A : Type 0} (b : Bool) (x y : A) → b ≡ false → cond b x y ≡ y
off b x y is = ap (λ (t : Bool). cond t x y) is

taken_by : (n : ℕ) (bytes : List ℕ) (o : Option Past) → n ≤ length bytes →
    Some bytes ≡ option_map (λ (p : Past). pending_bytes p.history) o →
    option_map_or (λ (p : Past). cond (nat_lt (untaken_count p.history) n) (Some TookTooMuch) None) o (Some NoSuchConnection) ≡ None
taken_by n bytes None le is = absurd (none-some bytes (sym is))
taken_by n bytes (Some p) le is =
    let same : length bytes ≡ untaken_count p.history = ap length (same_Some bytes (pending_bytes p.history) is) in
    off (nat_lt (untaken_count p.history) n) (Some TookTooMuch) None (le-ltb (untaken_count p.history) n (subst (λ (k : ℕ). n ≤ k) same le))

pub took_taken : (m c n : ℕ) (bytes : List ℕ) (l : LoneInstance) → l.state.moment ≤ m → n ≤ length bytes →
    Some bytes ≡ option_map (λ (p : Past). pending_bytes p.history) (open_at c l.connections) →
    refusal_of (record { moment = m; what = took c n }) l ≡ None
took_taken m c n bytes l late le is =
    off (nat_lt m l.state.moment) (Some TimeWentBack) (refusal_of_what (took c n) l) (le-ltb m l.state.moment late)
    ∙ taken_by n bytes (open_at c l.connections) le is
