-- What a received frame comes to, beside what it causes by the rules of streams: the server lets
-- neither the bytes grow without end that answer frames, nor the resets of streams by a client that
-- takes nothing (Floods.antt).
use Rattle.std.specs.Prelude.{ℕ, ◌+◌, nat_le, if◌then◌else◌, Bool, true, false, not, ◌&&◌, List, [], ◌∷◌, ◌++◌, length, map, Option, Some, None, Result, Ok, Err}
use Rattle.std.specs.List.{filter_map}
use Rattle.http2_frames.specs.declared.codes.ErrorCode.{ErrorCode}
use Rattle.http2_frames.specs.declared.codes.ErrorCode.TheVariants.{EnhanceYourCalm}
use Rattle.http2_frames.specs.declared.error.FrameError.{FrameError}
use Rattle.http2_frames.specs.declared.frame.RawFrame.{RawFrame}
use Rattle.http2_frames.specs.declared.frame.Frame.{Frame}
use Rattle.http2_frames.specs.Writing.{text_of}
use Rattle.http2_streams.specs.declared.event.Event.{Event}
use Rattle.http2_streams.specs.declared.event.Event.TheVariants.{Nothing}
use Rattle.http2_streams.specs.declared.event.StreamEvent.{StreamEvent}
use Rattle.http2_streams.specs.History.{Entry, In, Unreadable, Out, highest_stream, has_failed}
use Rattle.http2_streams.specs.Rules.{answer_after}
use Rattle.http2_streams.specs.Entries.{control_frames, goaway_frame}
use Rattle.grpc_sending.specs.Bytes.{untaken_count}
use Rattle.conn_core.specs.Floods.{is_flood}
use Rattle.grpc_sending.specs.declared.sender.TheConstants.{CONTROL_LIMIT}

abbrev pub raw_in : Entry → Option RawFrame
raw_in (In f) = Some f
raw_in _ = None

-- the frames as they were received
abbrev pub received_raw_frames : List Entry → List RawFrame
received_raw_frames d = filter_map raw_in d

-- a control frame other than GOAWAY is put where the untaken bytes stay at 131,055 or fewer
abbrev pub may_put : ℕ → Frame → Bool
may_put n f = nat_le (n + length (text_of f)) CONTROL_LIMIT

-- those that are put before the first that is not
abbrev pub frames_to_put : ℕ → List Frame → List Frame
frames_to_put n [] = []
frames_to_put n (f ∷ fs) = if may_put n f then f ∷ frames_to_put (n + length (text_of f)) fs else []

abbrev pub may_put_all : ℕ → List Frame → Bool
may_put_all n [] = true
may_put_all n (f ∷ fs) = if may_put n f then may_put_all (n + length (text_of f)) fs else false

-- the frames that are put for a received frame, and what it brings
pub record Outcome : Type 0 where
  pub put : List Frame
  pub event : Event
  -- whether it is an error of the connection (section 5.4.1)
  pub fails : Bool

abbrev pub fault_outcome : List Frame → ℕ → ErrorCode → Outcome
fault_outcome put last_stream code =
    record { put = put ++ goaway_frame last_stream code ∷ []; event = Nothing; fails = true }

-- whether there is room for the answer to a frame, and the frame is no flood: then the answer is
-- put, and the frame brings what it brings
abbrev pub fits : Bool → ℕ → StreamEvent → Bool
fits flood n a = may_put_all n (control_frames a) && not flood

-- n bytes are untaken; refused and malformed requests are opened, too, so the GOAWAY for want of
-- room, or for a flood, comes after the frame
abbrev pub outcome_of : Bool → ℕ → ℕ → ℕ → Result StreamEvent ErrorCode → Outcome
outcome_of flood n highest_before highest_after (Err code) = fault_outcome [] highest_before code
outcome_of flood n highest_before highest_after (Ok a) =
    if fits flood n a
    then record { put = control_frames a; event = a.event; fails = false }
    else fault_outcome (frames_to_put n (control_frames a)) highest_after EnhanceYourCalm

abbrev pub outcome : List Entry → RawFrame → Outcome
outcome d f =
    outcome_of (is_flood d f) (untaken_count d) (highest_stream d) (highest_stream (d ++ In f ∷ []))
    (answer_after d f)

abbrev pub frame_entries : List Entry → RawFrame → List Entry
frame_entries d f = In f ∷ map Out (outcome d f).put

-- an error of the connection that no frame is: nothing is put after another one
abbrev pub fault_frames : Bool → ℕ → ErrorCode → List Frame
fault_frames failed last_stream code = if failed then [] else goaway_frame last_stream code ∷ []

abbrev pub fault_entries : List Entry → FrameError → ErrorCode → List Entry
fault_entries d e code =
    Unreadable e ∷ map Out (fault_frames (has_failed d) (highest_stream d) code)
