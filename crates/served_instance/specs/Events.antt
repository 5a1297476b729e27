-- The events of calls that received bytes bring, in order: those that `after_bytes_on` (Lone.antt)
-- gives the instance one after another. Each definition goes beside one of Lone.antt, whose steps
-- it follows. To be read from the last definition up: `bytes_events`.
use Rattle.std.specs.Prelude.{ℕ, if◌then◌else◌, List, [], ◌∷◌, ◌++◌, map, Option, Some, None, Result, Ok, Err}
use Rattle.conn_core.specs.ReaderConstants.{CLIENT_PREFACE}
use Rattle.conn_core.specs.ErrorCode.{ErrorCode}
use Rattle.conn_core.specs.FrameError.{FrameError}
use Rattle.conn_core.specs.RawFrame.{RawFrame}
use Rattle.conn_core.specs.Reading.{split}
use Rattle.conn_core.specs.Rules.{reading_fault}
use Rattle.conn_core.specs.Past.{Past, with_frame, with_fault, with_bytes}
use Rattle.instance_core.specs.Calls.{CallEventValue}
use Rattle.served_instance.specs.Connections.{open_at, at_open}
use Rattle.served_instance.specs.Calls.{call_event_on}
use Rattle.served_instance.specs.Lone.{LoneInstance, due_at, is_over, after_frame_on, after_frames_on, unread_frames}

-- what is due on connection c
abbrev pub due_events : ℕ → LoneInstance → List CallEventValue
due_events c l = map (call_event_on c) (due_at c l)

-- a frame was read
abbrev pub frame_taken : ℕ → RawFrame → LoneInstance → LoneInstance
frame_taken c f l = record l { connections = at_open c (λ p. with_frame p f) l.connections }

abbrev pub fault_met : ℕ → FrameError → ErrorCode → LoneInstance → LoneInstance
fault_met c e code l = record l { connections = at_open c (λ p. with_fault p e code) l.connections }

abbrev pub frame_events : ℕ → RawFrame → LoneInstance → List CallEventValue
frame_events c f l = due_events c (frame_taken c f l)

abbrev pub events_of_frames : ℕ → List RawFrame → LoneInstance → List CallEventValue
events_of_frames c [] l = []
events_of_frames c (f ∷ fs) l =
    if is_over c l then []
    else frame_events c f l ++ events_of_frames c fs (after_frame_on c f l)

abbrev pub fault_events : ℕ → FrameError → LoneInstance → Option ErrorCode → List CallEventValue
fault_events c e l None = []
fault_events c e l (Some code) = due_events c (fault_met c e code l)

abbrev pub end_events : ℕ → Result (List ℕ) FrameError → LoneInstance → List CallEventValue
end_events c (Ok rest) l = []
end_events c (Err e) l = if is_over c l then [] else fault_events c e l (reading_fault e)

abbrev pub reading_events : ℕ → LoneInstance → Option Past → List CallEventValue
reading_events c l None = []
reading_events c l (Some p) =
    events_of_frames c (unread_frames p) l
    ++ end_events c (split CLIENT_PREFACE.now p.text).end (after_frames_on c (unread_frames p) l)

-- all that was received and not read yet
abbrev pub rest_events : ℕ → LoneInstance → List CallEventValue
rest_events c l = reading_events c l (open_at c l.connections)

-- more bytes are received
abbrev pub bytes_come : ℕ → List ℕ → LoneInstance → LoneInstance
bytes_come c bytes l = record l { connections = at_open c (with_bytes bytes) l.connections }

abbrev pub bytes_events : ℕ → List ℕ → LoneInstance → List CallEventValue
bytes_events c bytes l = rest_events c (bytes_come c bytes l)
