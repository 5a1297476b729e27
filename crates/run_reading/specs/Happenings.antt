-- What happens to an instance in a run that matters to its answers: moments come, time passes,
-- requests come that are no calls, and events of calls, in order. Each definition here goes beside
-- one of Lone.antt of served_instance, whose steps it follows, and lists what happens in it.
use Rattle.std.specs.Prelude.{ℕ, Bool, false, not, ◌&&◌, ◌==◌, suc, if◌then◌else◌, List, [], ◌∷◌, ◌++◌, map, Option, Some, None, Result, Ok, Err}
use Rattle.std.specs.List.{list_any}
use Rattle.std.specs.Option.{option_map_or}
use Rattle.conn_core.specs.ReaderConstants.{CLIENT_PREFACE}
use Rattle.conn_core.specs.ErrorCode.{ErrorCode}
use Rattle.conn_core.specs.FrameError.{FrameError}
use Rattle.conn_core.specs.History.{has_failed, live_streams}
use Rattle.conn_core.specs.RawFrame.{RawFrame}
use Rattle.conn_core.specs.Reading.{split}
use Rattle.conn_core.specs.Rules.{reading_fault}
use Rattle.grpc_sending.specs.Owed.{Item}
use Rattle.conn_core.specs.declared.event.CallEvent.{CallEvent}
use Rattle.conn_core.specs.Calls.{cancels, items_at_once}
use Rattle.conn_core.specs.Received.{outcome}
use Rattle.conn_core.specs.Past.{Past, with_frame, with_fault, with_bytes}
use Rattle.instance_core.specs.declared.event.CallId.{CallId}
use Rattle.instance_core.specs.Calls.{CallEventValue, start_jobs, end_late_jobs, end_job}
use Rattle.server_events.specs.Events.{LoneEvent, WhatValue, opened, received, took, closed, tick, ended}
use Rattle.served_instance.specs.declared.refusal.EventRefusal.{EventRefusal}
use Rattle.served_instance.specs.Connections.{LoneConnection, is_open_at, open_at, at_open}
use Rattle.served_instance.specs.Calls.{call_event_on}
use Rattle.served_instance.specs.Lone.{LoneInstance, due_at, is_over, after_frame_on, after_frames_on, after_bytes_on, unread_frames, lone_at_moment}
use Rattle.served_instance.specs.Refusals.{refusal_of}
use Rattle.instance_core.specs.Visible.{Blob}
use Rattle.server_core.specs.Families.{FamilyEvent, own_event, parent_event}
use Rattle.server_core.specs.Runs.{FamilyRun, texts_of_parent, family_step}

pub data Happening : Type 0 where
  -- an event that is not refused comes at this moment, in milliseconds, while the instance's parent
  -- has these texts
  MomentCame : List Blob → ℕ → Happening
  -- such an event is over: the parent's texts are read no more
  EventOver : Happening
  -- old uploads are forgotten
  TimePassed : Happening
  -- the request on this stream, of the connection at this place, is no call: this item is owed to
  -- it at once
  RequestAnswered : ℕ → ℕ → Item → Happening
  -- something happens to a call on the connection at this place
  CallEventCame : ℕ → CallEventValue → Happening
  -- jobs end and start; a call whose stream is open has the place of its connection
  JobsTurned : (CallId → Option ℕ) → CallEventValue → Happening

-- the place of the open connection of this number, in order of opening
abbrev pub connection_place : ℕ → List LoneConnection → ℕ
connection_place c [] = 0
connection_place c (k ∷ ks) = if is_open_at c k then 0 else suc (connection_place c ks)

-- ---- jobs

-- the stream is open or half-closed, and no error of the connection was met
abbrev pub is_stream_open : ℕ → Past → Bool
is_stream_open s p =
    not (has_failed p.history) && list_any (λ t. t == s) (live_streams p.history)

abbrev pub is_open_call : List LoneConnection → CallId → Bool
is_open_call ks id = option_map_or (is_stream_open id.stream) (open_at id.connection ks) false

-- the place of the connection of a call whose stream is open
abbrev pub place_of_call : List LoneConnection → CallId → Option ℕ
place_of_call ks id =
    if is_open_call ks id then Some (connection_place id.connection ks) else None

abbrev pub turn_happenings : CallEventValue → LoneInstance → List Happening
turn_happenings event l = JobsTurned (place_of_call l.connections) event ∷ []

-- ---- calls

abbrev pub call_happenings : ℕ → ℕ → List CallEvent → List Happening
call_happenings place c events = map (λ e. CallEventCame place (call_event_on c e)) events

abbrev pub due_happenings : ℕ → LoneInstance → List Happening
due_happenings c l = call_happenings (connection_place c l.connections) c (due_at c l)

-- ---- received bytes

abbrev pub answer_happenings : ℕ → List (ℕ × Item) → List Happening
answer_happenings place answers = map (λ x. RequestAnswered place x.0 x.1) answers

abbrev pub request_happenings : ℕ → RawFrame → LoneInstance → List Happening
request_happenings c f l =
    option_map_or
    (λ p. answer_happenings (connection_place c l.connections)
    (items_at_once (outcome p.history f).event))
    (open_at c l.connections) []

abbrev pub frame_happenings : ℕ → RawFrame → LoneInstance → List Happening
frame_happenings c f l =
    request_happenings c f l
    ++ due_happenings c (record l { connections = at_open c (λ p. with_frame p f) l.connections })

abbrev pub happenings_of_frames : ℕ → List RawFrame → LoneInstance → List Happening
happenings_of_frames c [] l = []
happenings_of_frames c (f ∷ fs) l =
    if is_over c l then []
    else frame_happenings c f l ++ happenings_of_frames c fs (after_frame_on c f l)

abbrev pub fault_happenings : ℕ → FrameError → LoneInstance → Option ErrorCode → List Happening
fault_happenings c e l None = []
fault_happenings c e l (Some code) =
    due_happenings c (record l { connections = at_open c (λ p. with_fault p e code) l.connections })

abbrev pub end_happenings : ℕ → Result (List ℕ) FrameError → LoneInstance → List Happening
end_happenings c (Ok rest) l = []
end_happenings c (Err e) l = if is_over c l then [] else fault_happenings c e l (reading_fault e)

abbrev pub reading_happenings : ℕ → LoneInstance → Option Past → List Happening
reading_happenings c l None = []
reading_happenings c l (Some p) =
    happenings_of_frames c (unread_frames p) l
    ++ end_happenings c (split CLIENT_PREFACE.now p.text).end
    (after_frames_on c (unread_frames p) l)

abbrev pub happenings_of_bytes : ℕ → List ℕ → LoneInstance → List Happening
happenings_of_bytes c bytes l =
    let m : LoneInstance = record l { connections = at_open c (with_bytes bytes) l.connections } in
    reading_happenings c m (open_at c m.connections)

-- ---- events

abbrev pub close_happenings : ℕ → LoneInstance → List Happening
close_happenings c l =
    call_happenings (connection_place c l.connections) c
    (option_map_or (λ p. cancels p.history) (open_at c l.connections) [])

abbrev pub happenings_by : WhatValue → LoneInstance → List Happening
happenings_by (opened c) l = []
happenings_by (received c bytes) l =
    happenings_of_bytes c bytes l ++ turn_happenings start_jobs (after_bytes_on c bytes l)
happenings_by (took c n) l = []
happenings_by (closed c) l = close_happenings c l
happenings_by tick l = TimePassed ∷ turn_happenings end_late_jobs l
happenings_by (ended job outcome) l = turn_happenings (end_job job outcome) l

-- a refused event changes nothing
abbrev pub happenings_unless : List Blob → LoneEvent → LoneInstance → Option EventRefusal →
    List Happening
happenings_unless parent e l None =
    MomentCame parent e.moment
    ∷ (happenings_by e.what (lone_at_moment e.moment parent l) ++ EventOver ∷ [])
happenings_unless parent e l (Some refusal) = []

abbrev pub step_happenings : List Blob → LoneEvent → LoneInstance → List Happening
step_happenings parent e l = happenings_unless parent e l (refusal_of e l)

-- what happens to the parent is nothing that happens to the instance
abbrev pub family_happenings : FamilyRun → FamilyEvent → List Happening
family_happenings f (own_event e) = step_happenings (texts_of_parent f.parent) e f.own.lone
family_happenings f (parent_event e) = []

-- all that happens to an instance at these events of it and of its parent, one after another
abbrev pub happenings : FamilyRun → List FamilyEvent → List Happening
happenings f [] = []
happenings f (e ∷ es) = family_happenings f e ++ happenings (family_step f e) es
