-- Event after event nobody watches a job that waits though it could run; so of jobs that start only
-- calls on one connection are told.
use Rattle.std.proofs.Common.{◌≡◌, refl, sym, ap, ◌∙◌, subst, inl, inr}
use Rattle.std.specs.Prelude.{ℕ, List, [], ◌∷◌, ◌++◌, map, filter, Option, Some, None, Result, Ok, Err}
use Rattle.std.specs.Option.{option_map_or}
use Rattle.std.specs.List.{AllByRecursion}
use Rattle.std.proofs.lemmas.Bool.{cases_Bool}
use Rattle.conn_core.specs.ReaderConstants.{CLIENT_PREFACE}
use Rattle.conn_core.specs.ErrorCode.{ErrorCode}
use Rattle.conn_core.specs.FrameError.{FrameError}
use Rattle.conn_core.specs.RawFrame.{RawFrame}
use Rattle.conn_core.specs.Reading.{split}
use Rattle.conn_core.specs.History.{Entry, has_failed, live_streams}
use Rattle.conn_core.specs.Rules.{reading_fault}
use Rattle.conn_core.specs.declared.event.CallEvent.{CallEvent}
use Rattle.conn_core.specs.declared.event.CallEvent.TheVariants as Seen
use Rattle.conn_core.specs.Calls.{cancels, is_call}
use Rattle.conn_core.specs.Past.{Past}
use Rattle.job_queue.specs.Order.{AreJobs}
use Rattle.instance_core.specs.Answer.{answer, state_after}
use Rattle.instance_core.specs.Apart.{is_apart, IsCallOn, replies_on}
use Rattle.instance_core.specs.Calls.{CallEventValue, start_jobs, end_late_jobs, end_job, tick as time_passes}
use Rattle.instance_core.specs.State.{InstanceState}
use Rattle.instance_core.specs.Visible.{Blob}
use Rattle.instance_core.specs.Watching.{WatchAtRest, WatchDuring}
use Rattle.instance_core.proofs.NamedTexts.{all_append}
use Rattle.instance_core.proofs.WatchKept.{IsWatched, open_given, made_watched, event_watched, all_filtered}
use Rattle.instance_core.proofs.WatchTold.{starts_rest, late_rest, ended_rest, tick_rest, cancel_rest, told_there}
use Rattle.server_events.specs.Events.{LoneEvent, WhatValue, opened, received, took, closed, tick, ended}
use Rattle.served_instance.specs.Connections.{open_at, at_open, with_closed}
use Rattle.served_instance.specs.Calls.{call_id, call_event_on}
use Rattle.served_instance.specs.Lone.{LoneInstance, after_call_event, after_call_events, due_at, without_due, after_due_on, after_frame_on, is_over, after_frames_on, after_fault_on, after_end_on, unread_frames, after_reading_on, after_bytes_on, after_closing, effect_of, lone_at_moment, after_event}
use Rattle.served_instance.specs.Events.{due_events, frame_taken, fault_met, frame_events, events_of_frames, fault_events, end_events, reading_events, bytes_come, bytes_events}
use Rattle.served_instance.specs.Short.{IsCutShort, after_break, after_break_all, without_job, IsCutEffect, Short}
use Rattle.served_instance.proofs.CutEvents.{after_events}
use Rattle.served_instance.proofs.Frames.{happened_is}

-- ---- what is given to the instance, event after event

joined_events : (xs ys : List CallEventValue) (s : InstanceState) → after_events (xs ++ ys) s ≡ after_events ys (after_events xs s)
joined_events [] ys s = refl
joined_events (x ∷ xs) ys s = joined_events xs ys (state_after s x)

pub happened_state : (event : CallEventValue) (l : LoneInstance) → (after_call_event event l).state ≡ state_after l.state event
happened_state event l = ap (λ (k : LoneInstance). k.state) (happened_is event l)

all_happened_state : (c : ℕ) (es : List CallEvent) (l : LoneInstance) →
    (after_call_events c es l).state ≡ after_events (map (call_event_on c) es) l.state
all_happened_state c [] l = refl
all_happened_state c (e ∷ es) l =
    all_happened_state c es (after_call_event (call_event_on c e) l)
    ∙ ap (after_events (map (call_event_on c) es)) (happened_state (call_event_on c e) l)

due_done : (c : ℕ) (l : LoneInstance) → (after_due_on c l).state ≡ after_events (due_events c l) l.state
due_done c l = all_happened_state c (due_at c l) (record l { connections = at_open c without_due l.connections })

frames_done : (c : ℕ) (fs : List RawFrame) (l : LoneInstance) →
    (after_frames_on c fs l).state ≡ after_events (events_of_frames c fs l) l.state
frames_done c [] l = refl
frames_done c (f ∷ fs) l = elim (cases_Bool (is_over c l)) [
  | inl over ↦ rw over refl
  | inr goes_on ↦
      let k = after_frame_on c f l in
      rw goes_on (
      frames_done c fs k
      ∙ ap (after_events (events_of_frames c fs k)) (due_done c (frame_taken c f l))
      ∙ sym (joined_events (frame_events c f l) (events_of_frames c fs k) l.state)
      )
]

fault_done : (c : ℕ) (e : FrameError) (l : LoneInstance) (code : Option ErrorCode) →
    (after_fault_on c e l code).state ≡ after_events (fault_events c e l code) l.state
fault_done c e l None = refl
fault_done c e l (Some code) = due_done c (fault_met c e code l)

end_done : (c : ℕ) (end : Result (List ℕ) FrameError) (l : LoneInstance) →
    (after_end_on c end l).state ≡ after_events (end_events c end l) l.state
end_done c (Ok rest) l = refl
end_done c (Err e) l = elim (cases_Bool (is_over c l)) [
  | inl over ↦ rw over refl
  | inr goes_on ↦ rw goes_on (fault_done c e l (reading_fault e))
]

reading_done : (c : ℕ) (l : LoneInstance) (p : Option Past) → (after_reading_on c l p).state ≡ after_events (reading_events c l p) l.state
reading_done c l None = refl
reading_done c l (Some p) =
    let fs = unread_frames p in
    let end = (split CLIENT_PREFACE.now p.text).end in
    let k = after_frames_on c fs l in
    end_done c end k
    ∙ ap (after_events (end_events c end k)) (frames_done c fs l)
    ∙ sym (joined_events (events_of_frames c fs l) (end_events c end k) l.state)

-- received bytes come to their events, one after another
pub bytes_done : (c : ℕ) (bytes : List ℕ) (l : LoneInstance) →
    (after_bytes_on c bytes l).state ≡ after_events (bytes_events c bytes l) l.state
bytes_done c bytes l =
    let m = bytes_come c bytes l in
    reading_done c m (open_at c m.connections)

all_answered : (es : List CallEventValue) (s t : InstanceState) → t ≡ after_events es s → IsCutShort es s t
all_answered [] s t is = is
all_answered (e ∷ es) s t is = inr (all_answered es (state_after s e) t is)

-- a front of them was answered where all were
pub all_done : (c : ℕ) (bytes : List ℕ) (l : LoneInstance) → IsCutShort (bytes_events c bytes l) l.state (after_bytes_on c bytes l).state
all_done c bytes l = all_answered (bytes_events c bytes l) l.state (after_bytes_on c bytes l).state (bytes_done c bytes l)

-- ---- all are of calls on the connection

abbrev AreOn : ℕ → List CallEventValue → Type 0
AreOn c es = AllByRecursion (IsCallOn c) es

event_on : (c : ℕ) (e : CallEvent) → IsCallOn c (call_event_on c e)
event_on c (Seen.Head s method) = refl
event_on c (Seen.Message s bytes) = refl
event_on c (Seen.Fault s refusal) = refl
event_on c (Seen.End s) = refl
event_on c (Seen.Cancel s) = refl

all_events_on : (c : ℕ) (es : List CallEvent) → AreOn c (map (call_event_on c) es)
all_events_on c [] = tt
all_events_on c (e ∷ es) = (event_on c e, all_events_on c es)

frames_on : (c : ℕ) (fs : List RawFrame) (l : LoneInstance) → AreOn c (events_of_frames c fs l)
frames_on c [] l = tt
frames_on c (f ∷ fs) l = elim (cases_Bool (is_over c l)) [
  | inl over ↦ rw over tt
  | inr goes_on ↦ rw goes_on (all_append (IsCallOn c) (frame_events c f l) (events_of_frames c fs (after_frame_on c f l))
      (all_events_on c (due_at c (frame_taken c f l))) (frames_on c fs (after_frame_on c f l)))
]

fault_on : (c : ℕ) (e : FrameError) (l : LoneInstance) (code : Option ErrorCode) → AreOn c (fault_events c e l code)
fault_on c e l None = tt
fault_on c e l (Some code) = all_events_on c (due_at c (fault_met c e code l))

end_on : (c : ℕ) (end : Result (List ℕ) FrameError) (l : LoneInstance) → AreOn c (end_events c end l)
end_on c (Ok rest) l = tt
end_on c (Err e) l = elim (cases_Bool (is_over c l)) [
  | inl over ↦ rw over tt
  | inr goes_on ↦ rw goes_on (fault_on c e l (reading_fault e))
]

reading_on : (c : ℕ) (l : LoneInstance) (p : Option Past) → AreOn c (reading_events c l p)
reading_on c l None = tt
reading_on c l (Some p) =
    let fs = unread_frames p in
    let k = after_frames_on c fs l in
    all_append (IsCallOn c) (events_of_frames c fs l) (end_events c (split CLIENT_PREFACE.now p.text).end k) (frames_on c fs l)
    (end_on c (split CLIENT_PREFACE.now p.text).end k)

pub bytes_on : (c : ℕ) (bytes : List ℕ) (l : LoneInstance) → AreOn c (bytes_events c bytes l)
bytes_on c bytes l =
    let m = bytes_come c bytes l in
    reading_on c m (open_at c m.connections)

-- ---- in the course of received bytes

cut_watched : (c : ℕ) (es : List CallEventValue) (s t : InstanceState) → AreOn c es → IsCutShort es s t → IsWatched c s → IsWatched c t
cut_watched c [] s t on same h = subst (IsWatched c) (sym same) h
cut_watched c (e ∷ es) s t on (inl part) h = made_watched c s t e on.0 part h
cut_watched c (e ∷ es) s t on (inr rest) h = cut_watched c es (state_after s e) t on.1 rest (event_watched c s e on.0 h)

-- nobody watches a job that waits though it could run, on this connection or another
pub rests_watched : (c : ℕ) (s : InstanceState) → AreJobs s.jobs → WatchAtRest s → IsWatched c s
rests_watched c s w h = record {
  numbers = open_given s.jobs w;
  during = record {
    given = h.given;
    busy = elim h.busy [
      | inl full ↦ inl full
      | inr none ↦ inr (all_filtered _ (is_apart c) s.calls none)
    ];
  };
}

-- of received bytes a front was carried out
pub cut_during : (c : ℕ) (bytes : List ℕ) (l : LoneInstance) (t : InstanceState) → AreJobs l.state.jobs → WatchAtRest l.state →
    IsCutShort (bytes_events c bytes l) l.state t → WatchDuring c t
cut_during c bytes l t w h cut = (cut_watched c (bytes_events c bytes l) l.state t (bytes_on c bytes l) cut
    (rests_watched c l.state w h)).during

pub during : (c : ℕ) (bytes : List ℕ) (l : LoneInstance) → AreJobs l.state.jobs → WatchAtRest l.state →
    WatchDuring c (after_bytes_on c bytes l).state
during c bytes l w h = cut_during c bytes l (after_bytes_on c bytes l).state w h (all_done c bytes l)

-- all are told who watch jobs that start then
pub told_alone : (c : ℕ) (bytes : List ℕ) (l : LoneInstance) → AreJobs l.state.jobs → WatchAtRest l.state
    → replies_on c (answer (after_bytes_on c bytes l).state start_jobs).replies
    ≡ (answer (after_bytes_on c bytes l).state start_jobs).replies
told_alone c bytes l w h = told_there c (after_bytes_on c bytes l).state (during c bytes l w h)

-- ---- an event

happened_rest : (event : CallEventValue) (l : LoneInstance) → WatchAtRest (state_after l.state event) →
    WatchAtRest (after_call_event event l).state
happened_rest event l h = subst WatchAtRest (sym (happened_state event l)) h

-- calls of a closed connection are given up
given_up : (c : ℕ) (ss : List ℕ) (l : LoneInstance) → WatchAtRest l.state → WatchAtRest (after_call_events c (map Seen.Cancel ss) l).state
given_up c [] l h = h
given_up c (s ∷ ss) l h =
    let what = call_event_on c (Seen.Cancel s) in
    given_up c ss (after_call_event what l) (happened_rest what l (cancel_rest (call_id c s) l.state h))

closed_rest : (c : ℕ) (l : LoneInstance) → WatchAtRest l.state → WatchAtRest (after_closing c l).state
closed_rest c l h = go (open_at c l.connections) where
  m : LoneInstance
  m = record l { connections = with_closed c l.connections }

  by_history : (d : List Entry) → WatchAtRest (after_call_events c (cancels d) m).state
  by_history d = elim (cases_Bool (has_failed d)) [
    | inl over ↦ rw over h
    | inr goes_on ↦ rw goes_on (given_up c (filter (is_call d) (live_streams d)) m h)
  ]

  go : (o : Option Past) → WatchAtRest (after_call_events c (option_map_or (λ p. cancels p.history) o []) m).state
  go None = h
  go (Some p) = by_history p.history

acted_rest : (what : WhatValue) (l : LoneInstance) → AreJobs l.state.jobs → WatchAtRest l.state → WatchAtRest (effect_of what l).state
acted_rest (opened c) l w h = h
acted_rest (received c bytes) l w h = happened_rest start_jobs (after_bytes_on c bytes l)
    (starts_rest c (after_bytes_on c bytes l).state (during c bytes l w h))
acted_rest (took c n) l w h = h
acted_rest (closed c) l w h = closed_rest c l h
acted_rest tick l w h =
    happened_rest end_late_jobs (after_call_event time_passes l)
    (late_rest (after_call_event time_passes l).state (happened_rest time_passes l (tick_rest l.state h)))
acted_rest (ended job outcome) l w h = happened_rest (end_job job outcome) l (ended_rest l.state job outcome h)

-- neither the moment nor what is seen of the parent matters
pub accepted_watched : (parent : List Blob) (e : LoneEvent) (l : LoneInstance) → AreJobs l.state.jobs → WatchAtRest l.state →
    WatchAtRest (after_event parent e l).state
accepted_watched parent e l w h =
    let at : WatchAtRest (lone_at_moment e.moment parent l).state = record { given = h.given; busy = h.busy } in
    let done = acted_rest e.what (lone_at_moment e.moment parent l) w at in
    record { given = done.given; busy = done.busy }

-- ---- what want of memory leaves

broken_rest : (c : ℕ) (left : InstanceState) (l : LoneInstance) → WatchDuring c left → WatchAtRest (after_break c left l).state
broken_rest c left l h = record { given = all_filtered _ (is_apart c) left.calls h.given; busy = h.busy }

broken_all_rest : (left : InstanceState) (l : LoneInstance) → WatchAtRest (after_break_all left l).state
broken_all_rest left l = record { given = tt; busy = inr tt }

same_lone : (l m : LoneInstance) → m ≡ l → WatchAtRest l.state → WatchAtRest m.state
same_lone l m is h = subst (λ (k : LoneInstance). WatchAtRest k.state) (sym is) h

cut_rest : (what : WhatValue) (l m : LoneInstance) → IsCutEffect what l m → AreJobs l.state.jobs → WatchAtRest l.state → WatchAtRest m.state
cut_rest (opened c) l m is w h = same_lone _ m is (record { given = h.given; busy = h.busy })
cut_rest (received c bytes) l m b w h = same_lone _ m b.gone (broken_rest c b.left l (cut_during c bytes l b.left w h b.cut))
cut_rest (took c n) l m is w h = absurd is
cut_rest (closed c) l m is w h = absurd is
cut_rest tick l m is w h = same_lone _ m is (broken_all_rest (state_after l.state time_passes) l)
cut_rest (ended job outcome) l m b w h = same_lone _ m b.gone (broken_all_rest (without_job job b.left) l)

pub short_watched : (parent : List Blob) (e : LoneEvent) (l m : LoneInstance) → Short parent e l m → AreJobs l.state.jobs →
    WatchAtRest l.state → WatchAtRest m.state
short_watched parent e l m short w h = cut_rest e.what (lone_at_moment e.moment parent l) m short w
    (record { given = h.given; busy = h.busy })
