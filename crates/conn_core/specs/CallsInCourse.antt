-- Which calls of a connection are in course: whether one is that its client sent whole, and how
-- many few more bytes may make whole.
use Rattle.std.specs.Prelude.{◌&&◌, if◌then◌else◌, ℕ, Bool, false, not, List, count_by, Result}
use Rattle.std.specs.List.{list_any}
use Rattle.std.specs.Option.{option_map_or}
use Rattle.http2_streams.specs.History.{Entry, is_ended_by_client, live_streams, has_failed}
use Rattle.http2_streams.specs.declared.stream.Stream.{Stream}
use Rattle.grpc_messages.specs.Reader.{bytes_left, may_end_in}
use Rattle.grpc_messages.specs.declared.error.MessagesError.{MessagesError}
use Rattle.conn_core.specs.declared.call.Call.{Call}
use Rattle.conn_core.specs.Calls.{is_call, stream_text, messages_of}
use Rattle.conn_core.specs.StandsFor.{call_on}

-- a stream is live that the client ended, and no error of the connection was met
abbrev pub has_calls : List Entry → Bool
has_calls d = not (has_failed d) && list_any (is_ended_by_client d) (live_streams d)

-- so many bytes of a connection are few
abbrev pub few_bytes : ℕ
few_bytes = 512

-- what has come of a message of the call on stream s that is not whole
abbrev pub part_of_message : List Entry → ℕ → List ℕ
part_of_message d s = bytes_left (messages_of (stream_text d s)).end

-- the client did not end the call on stream s yet, of which few bytes may end a message that came in
-- part
abbrev pub is_half : List Entry → ℕ → Bool
is_half d s =
    not (is_ended_by_client d s) && (is_call d s && may_end_in few_bytes (part_of_message d s))

-- how many such calls are in course, where no error of the connection was met
abbrev pub half_calls : List Entry → ℕ
half_calls d = if has_failed d then 0 else count_by (is_half d) (live_streams d)

-- ---- as it is kept

abbrev pub is_near_end : Result (List ℕ) MessagesError → Bool
is_near_end messages = may_end_in few_bytes (bytes_left messages)

abbrev pub is_near_end_on : ℕ → List Call → Bool
is_near_end_on s calls = option_map_or is_near_end (call_on s calls) false

abbrev pub is_kept_half : List Call → Stream → Bool
is_kept_half calls s = not s.ended_by_client && is_near_end_on s.number calls
