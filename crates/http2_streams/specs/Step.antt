-- What one entry changes of what is kept. For the code alone: but for `without_stream`, no public
-- contract speaks of it.
use Rattle.std.specs.Prelude.{ℕ, ◌==◌, nat_lt, length, if◌then◌else◌, Bool, true, false, not, ◌&&◌, List, [], ◌∷◌, ◌++◌, map, filter, fold, Option, Some, None, Result, Ok, Err, pos, ◌+ℤ◌, ◌-ℤ◌}
use Rattle.std.specs.Option.{option_map_or}
use Rattle.std.specs.Int.Signed.{lt_z}
use Rattle.http2_flow.specs.Credit.{Credit, window_left}
use Rattle.http2_frames.specs.declared.codes.setting.TheConstants.{INITIAL_WINDOW_SIZE}
use Rattle.http2_frames.specs.declared.codes.ErrorCode.{ErrorCode}
use Rattle.http2_frames.specs.declared.settings.Setting.{Setting}
use Rattle.http2_frames.specs.declared.frame.RawFrame.{RawFrame}
use Rattle.http2_frames.specs.declared.frame.Frame.{Frame}
use Rattle.http2_frames.specs.declared.frame.Frame.TheVariants.{Data, Headers, RstStream, Settings, GoAway, WindowUpdate, Continuation}
use Rattle.http2_frames.specs.Frames.{frame_of}
use Rattle.http2_streams.specs.HeaderBlock.{HeaderBlock, new_block}
use Rattle.http2_streams.specs.declared.header_blocks.HeaderList.{HeaderList}
use Rattle.http2_streams.specs.Decoding.{HeaderState, list_of_block, state_after_block, list_of_continuation, state_after_continuation}
use Rattle.http2_streams.specs.declared.stream.Side.{Side}
use Rattle.http2_streams.specs.declared.stream.Side.TheVariants.{Client, Server}
use Rattle.http2_streams.specs.declared.stream.Stream.{Stream}
use Rattle.http2_streams.specs.declared.event.StreamEvent.{StreamEvent}
use Rattle.http2_streams.specs.History.{last_items}
use Rattle.http2_streams.specs.Standing.{Standing}
use Rattle.http2_streams.specs.Rules.{is_receiving}
use Rattle.http2_streams.specs.declared.streams.TheConstants.{MAX_REMEMBERED}

abbrev pub without_stream : ℕ → List Stream → List Stream
without_stream s xs = filter (λ x. not (x.number == s)) xs

abbrev pub other : Side → Side
other Client = Server
other Server = Client

abbrev pub is_ended_by : Side → Stream → Bool
is_ended_by Client x = x.ended_by_client
is_ended_by Server x = x.ended_by_server

abbrev pub with_end : Side → ℕ → Stream → Stream
with_end Client s x = if x.number == s then record x { ended_by_client = true } else x
with_end Server s x = if x.number == s then record x { ended_by_server = true } else x

-- a stream that the other side ended before is closed then
abbrev pub streams_after_end : Side → ℕ → List Stream → List Stream
streams_after_end side s xs =
    map (with_end side s) (filter (λ x. not (x.number == s && is_ended_by (other side) x)) xs)

abbrev pub credit_after_grant : ℕ → Credit → Credit
credit_after_grant n w = record w { change = w.change +ℤ pos n }

abbrev pub credit_after_spending : ℕ → Credit → Credit
credit_after_spending n w = record w { change = w.change -ℤ pos n }

-- a window that is for fewer bytes is left as it was
abbrev pub credit_after_put : ℕ → Credit → Credit
credit_after_put n w =
    if lt_z (window_left w) (pos n) then w else credit_after_spending n w

abbrev pub stream_after_grant : ℕ → ℕ → Stream → Stream
stream_after_grant s n x =
    if x.number == s then record x { window = credit_after_grant n x.window } else x

abbrev pub stream_after_spending : ℕ → ℕ → Stream → Stream
stream_after_spending s n x =
    record x { window = if x.number == s then credit_after_spending n x.window else x.window }

abbrev pub stream_after_put : ℕ → ℕ → Stream → Stream
stream_after_put s n x =
    record x { window = if x.number == s then credit_after_put n x.window else x.window }

abbrev pub stream_after_resize : ℕ → Stream → Stream
stream_after_resize size x =
    record x { window = record { initial = size; change = x.window.change } }

abbrev pub new_stream : ℕ → ℕ → Bool → Stream
new_stream size s end_stream = record {
  number = s;
  ended_by_client = end_stream;
  ended_by_server = false;
  window = record { initial = size; change = pos 0 };
}

-- ---- received

abbrev pub with_live : Standing → List Stream → Standing
with_live v xs = record v { live = xs }

abbrev pub after_client_end : Standing → ℕ → Bool → Standing
after_client_end v s end_stream =
    if end_stream && is_receiving v s then with_live v (streams_after_end Client s v.live) else v

abbrev pub after_block : Standing → ℕ → Bool → Standing
after_block v s end_stream =
    if nat_lt v.highest s
    then record v {
      highest = s;
      live = v.live ++ new_stream v.initial_window_size s end_stream ∷ [];
    }
    else after_client_end v s end_stream

abbrev pub with_headers : Standing → HeaderState → Standing
with_headers v h = record v { unfinished = h.unfinished; table = h.table }

abbrev pub after_header_list : Standing → Result (Option HeaderList) ErrorCode → Standing
after_header_list v (Ok (Some list)) = after_block v list.stream list.end_stream
after_header_list v (Ok None) = v
after_header_list v (Err code) = v

-- a header block begins with this part
abbrev pub after_new_block : Standing → Bool → HeaderBlock → Standing
after_new_block v end_headers block =
    after_header_list (with_headers v (state_after_block v.table end_headers block))
    (list_of_block v.table end_headers block)

-- the header block that is unfinished goes on with this part
abbrev pub after_continuation : Standing → Bool → List ℕ → Standing
after_continuation v end_headers fragment =
    after_header_list
    (with_headers v (state_after_continuation v.table v.unfinished end_headers fragment))
    (list_of_continuation v.table v.unfinished end_headers fragment)

-- the last SETTINGS_INITIAL_WINDOW_SIZE in the list
abbrev pub size_after_setting : Option ℕ → Setting → Option ℕ
size_after_setting size s = if s.identifier == INITIAL_WINDOW_SIZE then Some s.value else size

abbrev pub after_resize : Standing → ℕ → Standing
after_resize v size =
    record v { initial_window_size = size; live = map (stream_after_resize size) v.live }

abbrev pub after_settings : Standing → List Setting → Standing
after_settings v settings = option_map_or (after_resize v) (fold size_after_setting None settings) v

abbrev pub after_window_update : Standing → ℕ → ℕ → Standing
after_window_update v s n =
    if s == 0 then record v { connection_window = credit_after_grant n v.connection_window }
    else with_live v (map (stream_after_grant s n) v.live)

abbrev pub after_frame_in : Standing → Frame → Standing
after_frame_in v (Data s end_stream bytes) = after_client_end v s end_stream
after_frame_in v (Headers s end_stream end_headers fragment) =
    after_new_block v end_headers (new_block s end_stream fragment)
after_frame_in v (RstStream s code) = with_live v (without_stream s v.live)
after_frame_in v (Settings ack settings) = if ack then v else after_settings v settings
after_frame_in v (WindowUpdate s n) = after_window_update v s n
after_frame_in v (Continuation s end_headers fragment) =
    after_continuation v end_headers fragment
after_frame_in v _ = v

-- ---- put

abbrev pub after_reset : Standing → ℕ → Standing
after_reset v s = record v {
  live = without_stream s v.live;
  remembered = last_items MAX_REMEMBERED (v.remembered ++ s ∷ []);
}

abbrev pub after_server_end : Standing → ℕ → Bool → Standing
after_server_end v s end_stream =
    if end_stream then with_live v (streams_after_end Server s v.live) else v

abbrev pub after_data : Standing → ℕ → ℕ → Standing
after_data v s n = record v {
  live = map (stream_after_spending s n) v.live;
  connection_window = credit_after_spending n v.connection_window;
}

abbrev pub after_frame_out : Standing → Frame → Standing
after_frame_out v (Data s end_stream bytes) =
    after_server_end (after_data v s (length bytes)) s end_stream
after_frame_out v (Headers s end_stream end_headers fragment) = after_server_end v s end_stream
after_frame_out v (RstStream s code) = after_reset v s
after_frame_out v (GoAway last_stream code debug_data) = record v { failed = true }
after_frame_out v _ = v

-- ---- an answer changes what is kept by the RST_STREAM in it

abbrev pub after_answer : StreamEvent → Standing → Standing
after_answer a v = option_map_or (after_frame_out v) a.reset v

-- ---- a whole step

abbrev pub after_begin : Standing → Standing
after_begin v = record v { begun = true }

abbrev pub after_content : Standing → StreamEvent → Result Frame ErrorCode → Standing
after_content v a (Ok f) = after_begin (after_answer a (after_frame_in v f))
after_content v a (Err code) = v

abbrev pub step_by : Standing → RawFrame → StreamEvent → Standing
step_by v f a = if v.failed then v else after_content v a (frame_of f)
