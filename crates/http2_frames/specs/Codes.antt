-- The numbers that RFC 9113 gives: of error codes (section 7); and those of frame types, flags and
-- settings, in its order, as the code names them.
use Rattle.std.specs.Prelude.{ℕ, List, [], ◌∷◌}
use Rattle.http2_frames.specs.declared.codes.flag.TheConstants.{END_STREAM, ACK, END_HEADERS, PADDED, PRIORITY as PRIORITY_FLAG}
use Rattle.http2_frames.specs.declared.codes.frame_type.TheConstants.{DATA, HEADERS, PRIORITY, RST_STREAM, SETTINGS, PUSH_PROMISE, PING, GOAWAY, WINDOW_UPDATE, CONTINUATION}
use Rattle.http2_frames.specs.declared.codes.setting.TheConstants.{HEADER_TABLE_SIZE, ENABLE_PUSH, MAX_CONCURRENT_STREAMS, INITIAL_WINDOW_SIZE, MAX_FRAME_SIZE, MAX_HEADER_LIST_SIZE}
use Rattle.http2_frames.specs.declared.codes.ErrorCode.{ErrorCode}
use Rattle.http2_frames.specs.declared.codes.ErrorCode.TheVariants.{NoError, ProtocolError, InternalError, FlowControlError, SettingsTimeout, StreamClosed, FrameSizeError, RefusedStream, Cancel, CompressionError, ConnectError, EnhanceYourCalm, InadequateSecurity, Http11Required}

abbrev pub code_number : ErrorCode → ℕ
code_number NoError = 0
code_number ProtocolError = 1
code_number InternalError = 2
code_number FlowControlError = 3
code_number SettingsTimeout = 4
code_number StreamClosed = 5
code_number FrameSizeError = 6
code_number RefusedStream = 7
code_number Cancel = 8
code_number CompressionError = 9
code_number ConnectError = 10
code_number EnhanceYourCalm = 11
code_number InadequateSecurity = 12
code_number Http11Required = 13

-- sections 6.1 to 6.10
abbrev pub frame_types : List ℕ
frame_types =
    DATA ∷ HEADERS ∷ PRIORITY ∷ RST_STREAM ∷ SETTINGS
    ∷ PUSH_PROMISE ∷ PING ∷ GOAWAY ∷ WINDOW_UPDATE ∷ CONTINUATION ∷ []

-- section 6
abbrev pub flags : List ℕ
flags = END_STREAM ∷ ACK ∷ END_HEADERS ∷ PADDED ∷ PRIORITY_FLAG ∷ []

-- section 6.5.2
abbrev pub settings : List ℕ
settings =
    HEADER_TABLE_SIZE ∷ ENABLE_PUSH ∷ MAX_CONCURRENT_STREAMS
    ∷ INITIAL_WINDOW_SIZE ∷ MAX_FRAME_SIZE ∷ MAX_HEADER_LIST_SIZE ∷ []
