-- The entries that a received frame adds to the history.
use Rattle.std.specs.Prelude.{ℕ, List, [], ◌∷◌, ◌++◌, map, Result, Ok, Err}
use Rattle.std.specs.Option.{option_to_list}
use Rattle.http2_frames.specs.declared.codes.ErrorCode.{ErrorCode}
use Rattle.http2_frames.specs.declared.frame.RawFrame.{RawFrame}
use Rattle.http2_frames.specs.declared.frame.Frame.{Frame}
use Rattle.http2_frames.specs.declared.frame.Frame.TheVariants.{GoAway}
use Rattle.http2_frames.specs.Codes.{code_number}
use Rattle.http2_streams.specs.declared.event.StreamEvent.{StreamEvent}
use Rattle.http2_streams.specs.History.{Entry, In, Out}
use Rattle.http2_streams.specs.Standing.{Standing, standing}
use Rattle.http2_streams.specs.Rules.{answer_after}

abbrev pub control_frames : StreamEvent → List Frame
control_frames a =
    option_to_list a.acknowledgement
    ++ (option_to_list a.connection_update
    ++ (option_to_list a.stream_update ++ option_to_list a.reset))

-- GOAWAY names the highest stream number that was opened (section 6.8)
abbrev pub goaway_frame : ℕ → ErrorCode → Frame
goaway_frame last_stream code = GoAway last_stream (code_number code) []

abbrev pub frames_put : Standing → Result StreamEvent ErrorCode → List Frame
frames_put v (Ok a) = control_frames a
frames_put v (Err code) = goaway_frame v.highest code ∷ []

-- a frame, and what is put for it
abbrev pub entries_of : List Entry → RawFrame → List Entry
entries_of d f = In f ∷ map Out (frames_put (standing d) (answer_after d f))
