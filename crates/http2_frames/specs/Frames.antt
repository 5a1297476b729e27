-- What a frame says by its type (RFC 9113, section 6), and which frames are malformed.
use Rattle.std.specs.Prelude.{◌≡◌, ◌++◌, ℕ, ◌+◌, ◌-◌, ◌%◌, ◌==◌, ◌||◌, ◌&&◌, not, Bool, nat_lt, if◌then◌else◌, List, length, drop, slice_index, slice_range, bit_and, Result, Ok, Err}
use Rattle.byteorder.specs.Endian.{big_number}
use Rattle.http2_frames.specs.declared.codes.frame_type.TheConstants.{DATA, HEADERS, PRIORITY, RST_STREAM, SETTINGS, PUSH_PROMISE, PING, GOAWAY, WINDOW_UPDATE, CONTINUATION}
use Rattle.http2_frames.specs.declared.codes.flag.TheConstants.{END_STREAM, ACK, END_HEADERS, PADDED, PRIORITY as PRIORITY_FLAG}
use Rattle.http2_frames.specs.declared.codes.ErrorCode.{ErrorCode}
use Rattle.http2_frames.specs.declared.codes.ErrorCode.TheVariants.{ProtocolError, FrameSizeError}
use Rattle.http2_frames.specs.declared.frame.RawFrame.{RawFrame}
use Rattle.http2_frames.specs.declared.frame.Frame.{Frame}
use Rattle.http2_frames.specs.declared.frame.Frame.TheVariants.{Data, Headers, Priority, RstStream, Settings, PushPromise, Ping, GoAway, WindowUpdate, Continuation, Unknown}
use Rattle.http2_frames.specs.Settings.{settings_of}
use Rattle.http2_frames.specs.Wire.{stream_limit, increment_limit}

abbrev pub has_flag : RawFrame → ℕ → Bool
has_flag f bit = not (bit_and f.flags bit == 0)

-- sections 6.1 and 6.2: the bytes of pad length and priority, which stand before what may be padded
abbrev pub lead_length : RawFrame → ℕ
lead_length f =
    (if has_flag f PADDED then 1 else 0) +
    (if (f.kind == HEADERS) && has_flag f PRIORITY_FLAG then 5 else 0)

abbrev pub pad_length : RawFrame → ℕ
pad_length f = if has_flag f PADDED then slice_index f.payload 0 else 0

-- what stands between them and the padding
abbrev pub unpadded_content : RawFrame → List ℕ
unpadded_content f = slice_range f.payload (lead_length f) (length f.payload - pad_length f)

abbrev pub is_of_a_stream : RawFrame → Bool
is_of_a_stream f =
    (f.kind == DATA) || (f.kind == HEADERS) || (f.kind == PRIORITY) || (f.kind == RST_STREAM) ||
    (f.kind == CONTINUATION)

abbrev pub is_of_the_connection : RawFrame → Bool
is_of_the_connection f = (f.kind == SETTINGS) || (f.kind == PING) || (f.kind == GOAWAY)

-- a stream number where none belongs, or none where one belongs
abbrev pub is_misaddressed : RawFrame → Bool
is_misaddressed f =
    (is_of_a_stream f && (f.stream == 0)) || (is_of_the_connection f && not (f.stream == 0))

abbrev pub may_be_padded : RawFrame → Bool
may_be_padded f = (f.kind == DATA) || (f.kind == HEADERS)

-- a length that the type does not allow
abbrev pub is_missized : RawFrame → Bool
is_missized f =
    ((f.kind == PRIORITY) && not (length f.payload == 5))
    || (((f.kind == RST_STREAM) || (f.kind == WINDOW_UPDATE)) && not (length f.payload == 4))
    || ((f.kind == PING) && not (length f.payload == 8))
    || ((f.kind == GOAWAY) && nat_lt (length f.payload) 8)
    || ((f.kind == SETTINGS)
    && (not (length f.payload % 6 == 0) || (has_flag f ACK && not (length f.payload == 0))))
    || (may_be_padded f && nat_lt (length f.payload) (lead_length f))

-- more padding than the rest of the payload
abbrev pub is_overpadded : RawFrame → Bool
is_overpadded f = may_be_padded f && nat_lt (length f.payload - lead_length f) (pad_length f)

abbrev pub content_of : RawFrame → Frame
content_of f =
    if f.kind == DATA then Data f.stream (has_flag f END_STREAM) (unpadded_content f)
    else if f.kind == HEADERS
    then Headers f.stream (has_flag f END_STREAM) (has_flag f END_HEADERS) (unpadded_content f)
    else if f.kind == PRIORITY then Priority f.stream f.payload
    else if f.kind == RST_STREAM then RstStream f.stream (big_number 4 f.payload)
    else if f.kind == SETTINGS then Settings (has_flag f ACK) (settings_of f.payload)
    else if f.kind == PUSH_PROMISE then PushPromise f.flags f.stream f.payload
    else if f.kind == PING then Ping (has_flag f ACK) f.payload
    else if f.kind == GOAWAY
    then GoAway (big_number 4 f.payload % stream_limit) (big_number 4 (drop 4 f.payload))
    (drop 8 f.payload)
    else if f.kind == WINDOW_UPDATE
    then WindowUpdate f.stream (big_number 4 f.payload % increment_limit)
    else if f.kind == CONTINUATION then Continuation f.stream (has_flag f END_HEADERS) f.payload
    else Unknown f.kind f.flags f.stream f.payload

-- what the frame says, or the first fault by stream number, length and padding, each of the
-- connection
abbrev pub frame_of : RawFrame → Result Frame ErrorCode
frame_of f =
    if is_misaddressed f then Err ProtocolError
    else if is_missized f then Err FrameSizeError
    else if is_overpadded f then Err ProtocolError
    else Ok (content_of f)

-- the payload is the fields in front, the content, and as many bytes of padding as the first field
-- says
pub record IsPadded (f : RawFrame) (content : List ℕ) : Type 0 where
  pub fields : List ℕ
  pub padding : List ℕ
  pub parts : f.payload ≡ fields ++ (content ++ padding)
  pub fields_length : length fields ≡ lead_length f
  pub padding_length : length padding ≡ pad_length f
