-- How frames are written (RFC 9113, sections 4.1 and 6): without padding and priority, the reserved
-- bit 0.
use Rattle.std.specs.Prelude.{◌≡◌, ℕ, ◌+◌, ◌*◌, ◌<◌, ◌≤◌, ◌^◌, if◌then◌else◌, Bool, true, List, [], ◌∷◌, ◌++◌, length}
use Rattle.std.specs.List.{AllByRecursion}
use Rattle.byteorder.specs.Endian.{big_bytes}
use Rattle.http2_frames.specs.declared.codes.frame_type.TheConstants.{DATA, HEADERS, PRIORITY, RST_STREAM, SETTINGS, PUSH_PROMISE, PING, GOAWAY, WINDOW_UPDATE, CONTINUATION}
use Rattle.http2_frames.specs.declared.codes.flag.TheConstants.{END_STREAM, ACK, END_HEADERS}
use Rattle.http2_frames.specs.declared.frame.RawFrame.{RawFrame}
use Rattle.http2_frames.specs.declared.frame.Frame.{Frame}
use Rattle.http2_frames.specs.declared.frame.Frame.TheVariants.{Data, Headers, Priority, RstStream, Settings, PushPromise, Ping, GoAway, WindowUpdate, Continuation, Unknown}
use Rattle.http2_frames.specs.declared.settings.Setting.{Setting}
use Rattle.http2_frames.specs.Settings.{settings_text}
use Rattle.http2_frames.specs.Wire.{stream_limit, increment_limit}
use Rattle.http2_frames.specs.declared.reader.TheConstants.{MAX_FRAME_SIZE}

-- section 4.1: the length, the type, the flags and the stream number, in nine bytes
abbrev pub header_text : ℕ → ℕ → ℕ → ℕ → List ℕ
header_text size kind flags stream = big_bytes 3 size ++ kind ∷ flags ∷ big_bytes 4 stream

abbrev pub frame_text : RawFrame → List ℕ
frame_text f = header_text (length f.payload) f.kind f.flags f.stream ++ f.payload

abbrev pub set_if : Bool → ℕ → ℕ
set_if is flag = if is then flag else 0

-- the frame that says so
abbrev pub raw_of : Frame → RawFrame
raw_of (Data s end_stream bytes) =
    record { kind = DATA; flags = set_if end_stream END_STREAM; stream = s; payload = bytes }
raw_of (Headers s end_stream end_headers fragment) = record {
  kind = HEADERS;
  flags = set_if end_stream END_STREAM + set_if end_headers END_HEADERS;
  stream = s;
  payload = fragment;
}
raw_of (Priority s priority) = record { kind = PRIORITY; flags = 0; stream = s; payload = priority }
raw_of (RstStream s error_code) =
    record { kind = RST_STREAM; flags = 0; stream = s; payload = big_bytes 4 error_code }
raw_of (Settings ack settings) =
    record { kind = SETTINGS; flags = set_if ack ACK; stream = 0; payload = settings_text settings }
raw_of (PushPromise flags s payload) =
    record { kind = PUSH_PROMISE; flags = flags; stream = s; payload = payload }
raw_of (Ping ack opaque_data) =
    record { kind = PING; flags = set_if ack ACK; stream = 0; payload = opaque_data }
raw_of (GoAway last_stream error_code debug_data) = record {
  kind = GOAWAY;
  flags = 0;
  stream = 0;
  payload = big_bytes 4 last_stream ++ big_bytes 4 error_code ++ debug_data;
}
raw_of (WindowUpdate s increment) =
    record { kind = WINDOW_UPDATE; flags = 0; stream = s; payload = big_bytes 4 increment }
raw_of (Continuation s end_headers fragment) = record {
  kind = CONTINUATION;
  flags = set_if end_headers END_HEADERS;
  stream = s;
  payload = fragment;
}
raw_of (Unknown kind flags s payload) =
    record { kind = kind; flags = flags; stream = s; payload = payload }

abbrev pub text_of : Frame → List ℕ
text_of f = frame_text (raw_of f)

abbrev pub IsSetting : Setting → Type 0
IsSetting s = (s.identifier < 2 ^ 16) × (s.value < 2 ^ 32)

abbrev pub IsStream : ℕ → Type 0
IsStream s = (0 < s) × (s < stream_limit)

-- a frame that keeps the rules of its type
abbrev pub IsWritable : Frame → Type 0
IsWritable (Data s end_stream bytes) = IsStream s × (length bytes ≤ MAX_FRAME_SIZE)
IsWritable (Headers s end_stream end_headers fragment) =
    IsStream s × (length fragment ≤ MAX_FRAME_SIZE)
IsWritable (Priority s priority) = IsStream s × (length priority ≡ 5)
IsWritable (RstStream s error_code) = IsStream s × (error_code < 2 ^ 32)
IsWritable (Settings ack settings) =
    AllByRecursion IsSetting settings × (6 * length settings ≤ MAX_FRAME_SIZE)
    × (ack ≡ true → settings ≡ [])
IsWritable (PushPromise flags s payload) = (s < stream_limit) × (length payload ≤ MAX_FRAME_SIZE)
IsWritable (Ping ack opaque_data) = length opaque_data ≡ 8
IsWritable (GoAway last_stream error_code debug_data) =
    (last_stream < stream_limit) × (error_code < 2 ^ 32) × (8 + length debug_data ≤ MAX_FRAME_SIZE)
IsWritable (WindowUpdate s increment) = (s < stream_limit) × (increment < increment_limit)
IsWritable (Continuation s end_headers fragment) = IsStream s × (length fragment ≤ MAX_FRAME_SIZE)
IsWritable (Unknown kind flags s payload) =
    (CONTINUATION < kind) × (s < stream_limit) × (length payload ≤ MAX_FRAME_SIZE)
