-- What a received frame causes, by what the history comes to. Sections are those of RFC 9113. The
-- tests stand in the order in which they are made.
use Rattle.std.specs.Prelude.{ℕ, ◌%◌, ◌==◌, nat_lt, nat_le, if◌then◌else◌, Bool, true, not, ◌&&◌, ◌||◌, List, [], ◌∷◌, length, Option, Some, None, Result, Ok, Err, pos, ◌+ℤ◌}
use Rattle.std.specs.List.{list_any}
use Rattle.std.specs.Option.{option_map_or}
use Rattle.std.specs.Int.Signed.{lt_z}
use Rattle.http2_flow.specs.Credit.{Credit, window_left, window_limit}
use Rattle.http2_frames.specs.declared.codes.frame_type.TheConstants.{SETTINGS, CONTINUATION}
use Rattle.http2_frames.specs.declared.codes.flag.TheConstants.{ACK}
use Rattle.http2_frames.specs.declared.codes.setting.TheConstants.{ENABLE_PUSH, INITIAL_WINDOW_SIZE, MAX_FRAME_SIZE}
use Rattle.http2_frames.specs.declared.codes.ErrorCode.{ErrorCode}
use Rattle.http2_frames.specs.declared.codes.ErrorCode.TheVariants.{ProtocolError, FlowControlError, StreamClosed, FrameSizeError, RefusedStream}
use Rattle.http2_frames.specs.declared.settings.Setting.{Setting}
use Rattle.http2_frames.specs.declared.error.FrameError.{FrameError}
use Rattle.http2_frames.specs.declared.error.FrameError.TheVariants.{Preface, Size, NoMemory}
use Rattle.http2_frames.specs.declared.frame.RawFrame.{RawFrame}
use Rattle.http2_frames.specs.declared.frame.Frame.{Frame}
use Rattle.http2_frames.specs.declared.frame.Frame.TheVariants.{Data, Headers, Priority, RstStream, Settings, PushPromise, Ping, GoAway, WindowUpdate, Continuation, Unknown}
use Rattle.http2_frames.specs.Codes.{code_number}
use Rattle.http2_frames.specs.Frames.{has_flag, frame_of}
use Rattle.http2_streams.specs.HeaderBlock.{HeaderBlock, new_block}
use Rattle.http2_streams.specs.declared.header_blocks.HeaderList.{HeaderList}
use Rattle.http2_streams.specs.Decoding.{list_of_block, list_of_continuation}
use Rattle.http2_streams.specs.Request.{is_well_formed_request}
use Rattle.http2_streams.specs.declared.stream.Stream.{Stream}
use Rattle.http2_streams.specs.declared.streams.TheConstants.{MAX_STREAMS}
use Rattle.http2_streams.specs.declared.event.Event.{Event}
use Rattle.http2_streams.specs.declared.event.Event.TheVariants.{Nothing, Request, Content, Trailers, Cancel}
use Rattle.http2_streams.specs.declared.event.StreamEvent.{StreamEvent}
use Rattle.http2_streams.specs.History.{Entry}
use Rattle.http2_streams.specs.Standing.{Standing, standing}

-- ---- what is known of a stream number

abbrev pub number_is : ℕ → Stream → Bool
number_is s x = x.number == s

abbrev pub is_live_at : Standing → ℕ → Bool
is_live_at v s = list_any (number_is s) v.live

-- open or half-closed (local): the client may still send on it (section 5.1)
abbrev pub receives : ℕ → Stream → Bool
receives s x = x.number == s && not x.ended_by_client

abbrev pub is_receiving : Standing → ℕ → Bool
is_receiving v s = list_any (receives s) v.live

abbrev pub is_remembered : Standing → ℕ → Bool
is_remembered v s = list_any (λ t. t == s) v.remembered

-- idle (section 5.1): not opened yet, or of the server's numbers, of which it uses none (section
-- 5.1.1)
abbrev pub is_idle : Standing → ℕ → Bool
is_idle v s = nat_lt v.highest s || (s % 2 == 0 && not (s == 0))

-- ---- answers

-- no control frame is put for a frame, and it brings nothing
abbrev pub no_effect : StreamEvent
no_effect = record {
  acknowledgement = None;
  connection_update = None;
  stream_update = None;
  reset = None;
  event = Nothing;
}

abbrev pub event_only : Event → StreamEvent
event_only event = record no_effect { event = event }

-- a live stream that ends before both sides ended it
abbrev pub cancel_event : Standing → ℕ → Event
cancel_event v s = if is_live_at v s then Cancel s else Nothing

abbrev pub reset_frame : ℕ → ErrorCode → Option Frame
reset_frame s code = Some (RstStream s (code_number code))

-- a stream error (section 5.4.2)
abbrev pub stream_error : Standing → ℕ → ErrorCode → StreamEvent
stream_error v s code =
    record no_effect { reset = reset_frame s code; event = cancel_event v s }

-- ---- DATA (section 6.1)

-- what was received of DATA, padding counted, is given back at once (section 6.9)
abbrev pub window_update : ℕ → ℕ → Option Frame
window_update s n = if n == 0 then None else Some (WindowUpdate s n)

-- on a stream on which the client may still send
abbrev pub content_received : ℕ → ℕ → Bool → List ℕ → StreamEvent
content_received n s end_stream content = record no_effect {
  connection_update = window_update 0 n;
  stream_update = if end_stream then None else window_update s n;
  event = Content s content end_stream;
}

-- on a stream on which it may send no more
abbrev pub content_refused : Standing → ℕ → ℕ → StreamEvent
content_refused v n s = record no_effect {
  connection_update = window_update 0 n;
  reset = reset_frame s StreamClosed;
  event = cancel_event v s;
}

abbrev pub on_data : Standing → ℕ → ℕ → Bool → List ℕ → Result StreamEvent ErrorCode
on_data v n s end_stream content =
    if is_idle v s then Err ProtocolError
    else if is_receiving v s then Ok (content_received n s end_stream content)
    else if is_remembered v s then Ok (record no_effect { connection_update = window_update 0 n })
    else Ok (content_refused v n s)

-- ---- HEADERS and CONTINUATION (sections 6.2 and 6.10)

-- section 5.1.2: at most 100 streams at a time; section 8.1.1: malformed requests
abbrev pub on_request : Standing → HeaderList → StreamEvent
on_request v block =
    if nat_le MAX_STREAMS (length v.live) then stream_error v block.stream RefusedStream
    else if not (is_well_formed_request block.fields) then stream_error v block.stream ProtocolError
    else event_only (Request block.stream block.fields block.end_stream)

-- section 8.1: trailers end the request
abbrev pub on_trailers : Standing → ℕ → Bool → StreamEvent
on_trailers v s end_stream =
    if end_stream then event_only (Trailers s) else stream_error v s ProtocolError

-- a whole block, after it was decoded
abbrev pub on_block : Standing → HeaderList → Result StreamEvent ErrorCode
on_block v block =
    if block.stream % 2 == 0 then Err ProtocolError
    else if nat_lt v.highest block.stream then Ok (on_request v block)
    else if is_receiving v block.stream then Ok (on_trailers v block.stream block.end_stream)
    else if is_remembered v block.stream then Ok no_effect
    else Err StreamClosed

abbrev pub on_header_list : Standing → Result (Option HeaderList) ErrorCode →
    Result StreamEvent ErrorCode
on_header_list v (Err code) = Err code
on_header_list v (Ok None) = Ok no_effect
on_header_list v (Ok (Some block)) = on_block v block

-- ---- SETTINGS (section 6.5)

abbrev pub is_above : ℕ → Stream → Bool
is_above size x = not (lt_z (pos size +ℤ x.window.change) (pos window_limit))

-- the least and the most that SETTINGS_MAX_FRAME_SIZE may be, in bytes (section 6.5.2)
abbrev pub least_frame_limit : ℕ
least_frame_limit = 16384

abbrev pub most_frame_limit : ℕ
most_frame_limit = 16777215

abbrev pub setting_fault : List Stream → Setting → Option ErrorCode
setting_fault live s =
    if s.identifier == ENABLE_PUSH && nat_lt 1 s.value then Some ProtocolError
    else if s.identifier == MAX_FRAME_SIZE
    && (nat_lt s.value least_frame_limit || nat_lt most_frame_limit s.value)
    then Some ProtocolError
    else if s.identifier == INITIAL_WINDOW_SIZE
    && (nat_le window_limit s.value || list_any (is_above s.value) live)
    then Some FlowControlError
    else None

-- the first, in the order of the settings
abbrev pub settings_fault : List Stream → List Setting → Option ErrorCode
settings_fault live [] = None
settings_fault live (s ∷ ss) = option_map_or Some (setting_fault live s) (settings_fault live ss)

abbrev pub on_settings : Standing → Bool → List Setting → Result StreamEvent ErrorCode
on_settings v ack settings =
    if ack then Ok no_effect
    else option_map_or Err (settings_fault v.live settings)
    (Ok (record no_effect { acknowledgement = Some (Settings true []) }))

-- ---- PING (section 6.7), RST_STREAM (section 6.4), WINDOW_UPDATE (section 6.9)

abbrev pub on_ping : Bool → List ℕ → StreamEvent
on_ping ack opaque_data =
    if ack then no_effect
    else record no_effect { acknowledgement = Some (Ping true opaque_data) }

abbrev pub on_reset : Standing → ℕ → Result StreamEvent ErrorCode
on_reset v s = if is_idle v s then Err ProtocolError else Ok (event_only (cancel_event v s))

-- the window stays below its limit (section 6.9.1)
abbrev pub may_grow : ℕ → Credit → Bool
may_grow n w = lt_z (window_left w +ℤ pos n) (pos window_limit)

abbrev pub overflows : ℕ → ℕ → Stream → Bool
overflows s n x = x.number == s && not (may_grow n x.window)

abbrev pub on_connection_update : Standing → ℕ → Result StreamEvent ErrorCode
on_connection_update v n =
    if n == 0 then Err ProtocolError
    else if may_grow n v.connection_window then Ok no_effect
    else Err FlowControlError

abbrev pub on_stream_update : Standing → ℕ → ℕ → Result StreamEvent ErrorCode
on_stream_update v s n =
    if is_idle v s then Err ProtocolError
    else if not (is_live_at v s) then Ok no_effect
    else if n == 0 then Ok (stream_error v s ProtocolError)
    else if list_any (overflows s n) v.live then Ok (stream_error v s FlowControlError)
    else Ok no_effect

-- ---- all frames

-- n is the length of the frame's payload
abbrev pub on_content : Standing → ℕ → Frame → Result StreamEvent ErrorCode
on_content v n (Data s end_stream bytes) = on_data v n s end_stream bytes
on_content v n (Headers s end_stream end_headers fragment) =
    on_header_list v (list_of_block v.table end_headers (new_block s end_stream fragment))
on_content v n (Priority s priority) = Ok no_effect
on_content v n (RstStream s code) = on_reset v s
on_content v n (Settings ack settings) = on_settings v ack settings
on_content v n (PushPromise flags s payload) = Err ProtocolError
on_content v n (Ping ack opaque_data) = Ok (on_ping ack opaque_data)
on_content v n (GoAway last_stream code debug_data) = Ok no_effect
on_content v n (WindowUpdate s increment) =
    if s == 0 then on_connection_update v increment else on_stream_update v s increment
on_content v n (Continuation s end_headers fragment) =
    on_header_list v (list_of_continuation v.table v.unfinished end_headers fragment)
on_content v n (Unknown kind flags s payload) = Ok no_effect

-- section 3.4: the client's preface ends with a SETTINGS frame
abbrev pub is_preface_frame : RawFrame → Bool
is_preface_frame f = f.kind == SETTINGS && not (has_flag f ACK)

-- section 6.10: the frames of a block follow each other with no other frame between them
abbrev pub continues_block : RawFrame → HeaderBlock → Bool
continues_block f b = f.kind == CONTINUATION && f.stream == b.stream

abbrev pub is_in_turn : Standing → RawFrame → Bool
is_in_turn v f =
    (v.begun || is_preface_frame f) && option_map_or (continues_block f) v.unfinished true

abbrev pub on_frame_of : Standing → ℕ → Result Frame ErrorCode → Result StreamEvent ErrorCode
on_frame_of v n (Err code) = Err code
on_frame_of v n (Ok f) = on_content v n f

-- an Err is a connection error (section 5.4.1)
abbrev pub on_raw_frame : Standing → RawFrame → Result StreamEvent ErrorCode
on_raw_frame v f =
    if is_in_turn v f then on_frame_of v (length f.payload) (frame_of f) else Err ProtocolError

-- after a connection error nothing is caused
abbrev pub answer_to : Standing → RawFrame → Result StreamEvent ErrorCode
answer_to v f = if v.failed then Ok no_effect else on_raw_frame v f

-- what a frame causes after a history
abbrev pub answer_after : List Entry → RawFrame → Result StreamEvent ErrorCode
answer_after d f = answer_to (standing d) f

-- what bytes cause that are no frame: section 3.4 for the preface, section 4.2 for the length
abbrev pub reading_fault : FrameError → Option ErrorCode
reading_fault Preface = Some ProtocolError
reading_fault Size = Some FrameSizeError
reading_fault NoMemory = None
