-- One instance by itself: what each event makes of it and of its connections. Nothing else is read.
-- To be read from the last definitions up: `after_event` is what an event does that is not refused
-- (Refusals.antt says which are), `effect_of` has a case for each kind of event, and
-- `all_sent_bytes` is what was put. `orders_of_what` is what an event orders of whoever runs jobs,
-- by the same cases. A connection's `Past` (conn_core, Past.antt) is all bytes that
-- were received on it; its history, that is all frames received and put and all takings of bytes,
-- in order; the items of responses that its streams were ever owed; and the events of calls that
-- are due. `with_frame`, `with_fault`, `with_taken` and `with_pumped` say what one step adds to it.
use Rattle.std.specs.Prelude.{ℕ, Bool, if◌then◌else◌, true, List, [], ◌∷◌, ◌++◌, length, map, drop, Option, Some, None, Result, Ok, Err}
use Rattle.std.specs.Option.{option_map_or}
use Rattle.conn_core.specs.ReaderConstants.{CLIENT_PREFACE}
use Rattle.conn_core.specs.ErrorCode.{ErrorCode}
use Rattle.conn_core.specs.FrameError.{FrameError}
use Rattle.conn_core.specs.RawFrame.{RawFrame}
use Rattle.conn_core.specs.Reading.{split}
use Rattle.conn_core.specs.History.{has_failed}
use Rattle.conn_core.specs.Rules.{reading_fault}
use Rattle.grpc_sending.specs.Bytes.{bytes_put}
use Rattle.conn_core.specs.declared.event.CallEvent.{CallEvent}
use Rattle.conn_core.specs.Received.{received_raw_frames}
use Rattle.conn_core.specs.Calls.{cancels}
use Rattle.conn_core.specs.Past.{Past, new_past, with_frame, with_fault, with_taken, with_pumped, with_bytes}
use Rattle.execution.specs.Orders.{OrderValue}
use Rattle.instance_core.specs.Calls.{CallEventValue, tick as time_passes, start_jobs, end_late_jobs, end_job}
use Rattle.instance_core.specs.State.{InstanceState, LimitsValue, new_instance, at_moment, seeing}
use Rattle.instance_core.specs.Visible.{Blob}
use Rattle.instance_core.specs.Replies.{ReplyValue}
use Rattle.instance_core.specs.Answer.{answer, orders_at, state_after}
use Rattle.server_events.specs.Events.{LoneEvent, WhatValue, opened, received, took, closed, tick, ended}
use Rattle.served_instance.specs.Connections.{LoneConnection, open_at, at_open, with_closed, at_all_open}
use Rattle.served_instance.specs.Calls.{call_event_on, owed_items, with_items}

pub record LoneInstance : Type 0 where
  -- the moment of the last event that was accepted, its texts, and its calls in course
  pub state : InstanceState
  -- all connections that were ever opened, in order
  pub connections : List LoneConnection

-- at first nothing has happened
abbrev pub new_lone : List ℕ → ℕ → ℕ → LimitsValue → LoneInstance
new_lone name quota slots limits =
    record { state = new_instance name quota slots limits; connections = [] }

-- ---- calls

-- the items of a reply are owed to the stream of its call
abbrev pub after_replies : List ReplyValue → LoneInstance → LoneInstance
after_replies [] l = l
after_replies (reply ∷ replies) l =
    after_replies replies (record l {
      connections = at_open reply.call.connection
          (with_items reply.call.stream (owed_items reply.items)) l.connections;
    })

-- something happens to a call: the instance answers
abbrev pub after_call_event : CallEventValue → LoneInstance → LoneInstance
after_call_event event l =
    after_replies (answer l.state event).replies (record l { state = state_after l.state event })

-- events of the calls on connection c, one after another
abbrev pub after_call_events : ℕ → List CallEvent → LoneInstance → LoneInstance
after_call_events c [] l = l
after_call_events c (event ∷ events) l =
    after_call_events c events (after_call_event (call_event_on c event) l)

-- ---- received bytes

abbrev pub due_at : ℕ → LoneInstance → List CallEvent
due_at c l = option_map_or (λ p. p.due) (open_at c l.connections) []

abbrev pub without_due : Past → Past
without_due p = record p { due = [] }

-- what is due happens
abbrev pub after_due_on : ℕ → LoneInstance → LoneInstance
after_due_on c l =
    after_call_events c (due_at c l)
    (record l { connections = at_open c without_due l.connections })

-- a frame: what it causes is put, and what it brings to calls happens
abbrev pub after_frame_on : ℕ → RawFrame → LoneInstance → LoneInstance
after_frame_on c f l =
    after_due_on c (record l { connections = at_open c (λ p. with_frame p f) l.connections })

-- whether there is no such connection, or an error of it was met
abbrev pub is_over : ℕ → LoneInstance → Bool
is_over c l = option_map_or (λ p. has_failed p.history) (open_at c l.connections) true

-- nothing is read behind an error of the connection
abbrev pub after_frames_on : ℕ → List RawFrame → LoneInstance → LoneInstance
after_frames_on c [] l = l
after_frames_on c (f ∷ fs) l =
    if is_over c l then l else after_frames_on c fs (after_frame_on c f l)

abbrev pub after_fault_on : ℕ → FrameError → LoneInstance → Option ErrorCode → LoneInstance
after_fault_on c e l None = l
after_fault_on c e l (Some code) =
    after_due_on c (record l { connections = at_open c (λ p. with_fault p e code) l.connections })

-- behind the frames the bytes may be none
abbrev pub after_end_on : ℕ → Result (List ℕ) FrameError → LoneInstance → LoneInstance
after_end_on c (Ok rest) l = l
after_end_on c (Err e) l = if is_over c l then l else after_fault_on c e l (reading_fault e)

-- the frames of all bytes received, without those that were read before
abbrev pub unread_frames : Past → List RawFrame
unread_frames p =
    drop (length (received_raw_frames p.history)) (split CLIENT_PREFACE.now p.text).items

-- all that is whole is read, frame by frame
abbrev pub after_reading_on : ℕ → LoneInstance → Option Past → LoneInstance
after_reading_on c l None = l
after_reading_on c l (Some p) =
    after_end_on c (split CLIENT_PREFACE.now p.text).end (after_frames_on c (unread_frames p) l)

abbrev pub after_bytes_on : ℕ → List ℕ → LoneInstance → LoneInstance
after_bytes_on c bytes l =
    let m : LoneInstance = record l { connections = at_open c (with_bytes bytes) l.connections } in
    after_reading_on c m (open_at c m.connections)

-- ---- all events: received bytes are read first, and then the jobs start for which there is a slot

-- a connection opens with the greeting of the window that was chosen for the instance
abbrev pub after_opening : ℕ → LoneInstance → LoneInstance
after_opening c l = record l {
  connections =
      l.connections
      ++ record { number = c; past = new_past l.state.limits.window; is_open = true } ∷ [];
}

-- a connection goes, and each call on it is given up
abbrev pub after_closing : ℕ → LoneInstance → LoneInstance
after_closing c l =
    after_call_events c (option_map_or (λ p. cancels p.history) (open_at c l.connections) [])
    (record l { connections = with_closed c l.connections })

abbrev pub effect_of : WhatValue → LoneInstance → LoneInstance
effect_of (opened c) l = after_opening c l
effect_of (received c bytes) l = after_call_event start_jobs (after_bytes_on c bytes l)
effect_of (took c n) l = record l { connections = at_open c (λ p. with_taken p n) l.connections }
effect_of (closed c) l = after_closing c l
effect_of tick l = after_call_event end_late_jobs (after_call_event time_passes l)
effect_of (ended job outcome) l = after_call_event (end_job job outcome) l

-- what is ordered of whoever runs jobs: at the end of what an event does
abbrev pub orders_of_what : WhatValue → LoneInstance → List OrderValue
orders_of_what (opened c) l = []
orders_of_what (received c bytes) l = orders_at (after_bytes_on c bytes l).state start_jobs
orders_of_what (took c n) l = []
orders_of_what (closed c) l = []
orders_of_what tick l = orders_at (after_call_event time_passes l).state end_late_jobs
orders_of_what (ended job outcome) l = orders_at l.state (end_job job outcome)

-- all that can be put is put, on each open connection
abbrev pub after_pump : LoneInstance → LoneInstance
after_pump l = record l { connections = at_all_open with_pumped l.connections }

-- an event comes at this moment, while the instance's parent has these texts
abbrev pub state_at_event : ℕ → List Blob → InstanceState → InstanceState
state_at_event moment parent s = seeing parent (at_moment moment s)

abbrev pub lone_at_moment : ℕ → List Blob → LoneInstance → LoneInstance
lone_at_moment moment parent l = record l { state = state_at_event moment parent l.state }

-- behind an event nothing is kept of what the parent has
abbrev pub lone_at_rest : LoneInstance → LoneInstance
lone_at_rest l = record l { state = seeing [] l.state }

abbrev pub after_event : List Blob → LoneEvent → LoneInstance → LoneInstance
after_event parent e l =
    after_pump (lone_at_rest (effect_of e.what (lone_at_moment e.moment parent l)))

-- ---- what came of it

-- the bytes that were put on each connection, in order of opening, with its number
abbrev pub sent_bytes_on : LoneConnection → ℕ × List ℕ
sent_bytes_on k = (k.number, bytes_put k.past.history)

abbrev pub all_sent_bytes : LoneInstance → List (ℕ × List ℕ)
all_sent_bytes l = map sent_bytes_on l.connections
