-- What passed on a connection, the oldest first, and what follows from the whole of it. Each notion
-- is a function of the frames that were received and of those that were put.
use Rattle.std.specs.Prelude.{ℕ, ◌-◌, ◌==◌, nat_lt, max, if◌then◌else◌, Bool, true, false, not, ◌&&◌, ◌||◌, List, [], ◌∷◌, ◌++◌, length, map, filter, fold, sum_by, drop, Option, Some, None, pos, ◌-ℤ◌}
use Rattle.std.specs.List.{filter_map, list_any}
use Rattle.std.specs.Option.{option_map_or}
use Rattle.std.specs.Result.{result_ok}
use Rattle.hpack.specs.Table.{Table, new_table}
use Rattle.hpack.specs.Block.{step}
use Rattle.http2_flow.specs.Credit.{Credit}
use Rattle.http2_flow.specs.declared.window.TheConstants.{INITIAL_SIZE}
use Rattle.http2_frames.specs.declared.codes.setting.TheConstants.{INITIAL_WINDOW_SIZE}
use Rattle.http2_frames.specs.declared.settings.Setting.{Setting}
use Rattle.http2_frames.specs.declared.error.FrameError.{FrameError}
use Rattle.http2_frames.specs.declared.frame.RawFrame.{RawFrame}
use Rattle.http2_frames.specs.declared.frame.Frame.{Frame}
use Rattle.http2_frames.specs.declared.frame.Frame.TheVariants.{Data, Headers, RstStream, Settings, GoAway, WindowUpdate, Continuation}
use Rattle.http2_frames.specs.Frames.{frame_of}
use Rattle.http2_streams.specs.HeaderBlock.{HeaderBlock, new_block, with_continuation}
use Rattle.http2_streams.specs.declared.streams.TheConstants.{MAX_REMEMBERED}

pub data Entry : Type 0 where
  -- a frame that was received
  In : RawFrame → Entry
  -- received bytes that are no frame, after which no more are read
  Unreadable : FrameError → Entry
  -- a frame that was put
  Out : Frame → Entry
  -- the peer took so many of the bytes that were put
  Took : ℕ → Entry

abbrev pub frame_in : Entry → Option Frame
frame_in (In f) = result_ok (frame_of f)
frame_in _ = None

abbrev pub frame_out : Entry → Option Frame
frame_out (Out f) = Some f
frame_out _ = None

-- what the received frames say; one that is malformed by itself says nothing
abbrev pub received_frames : List Entry → List Frame
received_frames d = filter_map frame_in d

abbrev pub sent_frames : List Entry → List Frame
sent_frames d = filter_map frame_out d

-- the connection preface was followed by a frame, which has to be SETTINGS (section 3.4)
abbrev pub has_begun : List Entry → Bool
has_begun d = nat_lt 0 (length (received_frames d))

abbrev pub is_goaway : Frame → Bool
is_goaway (GoAway last_stream code debug_data) = true
is_goaway _ = false

-- the server ended the connection with an error (section 5.4.1)
abbrev pub has_failed : List Entry → Bool
has_failed d = list_any is_goaway (sent_frames d)

-- ---- header blocks (section 4.3)

-- the blocks that are at their end, and the one that is not
pub record Blocks : Type 0 where
  pub finished : List HeaderBlock
  pub unfinished : Option HeaderBlock

-- END_HEADERS ends a block
abbrev pub blocks_with : List HeaderBlock → Bool → HeaderBlock → Blocks
blocks_with finished end_headers b =
    if end_headers then record { finished = finished ++ b ∷ []; unfinished = None }
    else record { finished = finished; unfinished = Some b }

abbrev pub blocks_after : Blocks → Frame → Blocks
blocks_after bs (Headers s end_stream end_headers fragment) =
    blocks_with bs.finished end_headers (new_block s end_stream fragment)
blocks_after bs (Continuation s end_headers fragment) =
    option_map_or (λ b. blocks_with bs.finished end_headers (with_continuation fragment b))
    bs.unfinished bs
blocks_after bs _ = bs

abbrev pub no_blocks : Blocks
no_blocks = record { finished = []; unfinished = None }

abbrev pub blocks_of : List Entry → Blocks
blocks_of d = fold blocks_after no_blocks (received_frames d)

-- the header blocks that were received whole
abbrev pub blocks : List Entry → List HeaderBlock
blocks d = (blocks_of d).finished

abbrev pub unfinished_block : List Entry → Option HeaderBlock
unfinished_block d = (blocks_of d).unfinished

abbrev pub table_after_block : Option Table → HeaderBlock → Option Table
table_after_block table b = (step table b.fragment).1

-- the dynamic table after all of them (RFC 7541, section 2.2), whatever became of their streams
abbrev pub table : List Entry → Option Table
table d = fold table_after_block (Some new_table) (blocks d)

-- ---- streams (section 5.1)

abbrev pub stream_of : HeaderBlock → ℕ
stream_of b = b.stream

-- the numbers that are above all before them
abbrev pub rising_numbers : ℕ → List ℕ → List ℕ
rising_numbers highest [] = []
rising_numbers highest (s ∷ ss) =
    if nat_lt highest s then s ∷ rising_numbers s ss else rising_numbers highest ss

-- the streams that the client opened, each by a block and each above those before it (section
-- 5.1.1)
abbrev pub opened_streams : List Entry → List ℕ
opened_streams d = rising_numbers 0 (map stream_of (blocks d))

-- the highest of them, or 0
abbrev pub highest_stream : List Entry → ℕ
highest_stream d = fold max 0 (map stream_of (blocks d))

abbrev pub resets : ℕ → Frame → Bool
resets s (RstStream t code) = t == s
resets s _ = false

abbrev pub is_reset : List Entry → ℕ → Bool
is_reset d s = list_any (resets s) (received_frames d) || list_any (resets s) (sent_frames d)

-- DATA with END_STREAM
abbrev pub data_ends : ℕ → Frame → Bool
data_ends s (Data t end_stream bytes) = end_stream && t == s
data_ends s _ = false

abbrev pub block_ends : ℕ → HeaderBlock → Bool
block_ends s b = b.end_stream && b.stream == s

-- DATA or HEADERS with END_STREAM
abbrev pub ends : ℕ → Frame → Bool
ends s (Data t end_stream bytes) = end_stream && t == s
ends s (Headers t end_stream end_headers fragment) = end_stream && t == s
ends s _ = false

-- half-closed (remote): the block that had END_STREAM ends the stream when it is whole
abbrev pub is_ended_by_client : List Entry → ℕ → Bool
is_ended_by_client d s =
    list_any (data_ends s) (received_frames d) || list_any (block_ends s) (blocks d)

-- half-closed (local)
abbrev pub is_ended_by_server : List Entry → ℕ → Bool
is_ended_by_server d s = list_any (ends s) (sent_frames d)

-- open or half-closed: a stream is closed when one side reset it or both ended it
abbrev pub is_not_closed : List Entry → ℕ → Bool
is_not_closed d s = not (is_reset d s) && not (is_ended_by_client d s && is_ended_by_server d s)

-- in rising order
abbrev pub live_streams : List Entry → List ℕ
live_streams d = filter (is_not_closed d) (opened_streams d)

abbrev pub stream_reset_by : Frame → Option ℕ
stream_reset_by (RstStream s code) = Some s
stream_reset_by _ = None

abbrev pub last_items : {A : Type 0} → ℕ → List A → List A
last_items n xs = drop (length xs - n) xs

-- the last streams that the server reset, on which frames may still be on their way (section
-- 5.4.2)
abbrev pub remembered_streams : List Entry → List ℕ
remembered_streams d = last_items MAX_REMEMBERED (filter_map stream_reset_by (sent_frames d))

-- ---- flow control (section 6.9)

abbrev pub size_set : ℕ → Setting → ℕ
size_set size s = if s.identifier == INITIAL_WINDOW_SIZE then s.value else size

abbrev pub size_after : ℕ → Frame → ℕ
size_after size (Settings ack settings) = if ack then size else fold size_set size settings
size_after size _ = size

-- SETTINGS_INITIAL_WINDOW_SIZE as it was set last, at first INITIAL_SIZE (section 6.9.2)
abbrev pub initial_window_size : List Entry → ℕ
initial_window_size d = fold size_after INITIAL_SIZE (received_frames d)

-- what a WINDOW_UPDATE adds to the window of stream s, or for 0 to the connection's
abbrev pub increment_for : ℕ → Frame → ℕ
increment_for s (WindowUpdate t increment) = if t == s then increment else 0
increment_for s _ = 0

abbrev pub data_length : Frame → ℕ
data_length (Data t end_stream bytes) = length bytes
data_length _ = 0

abbrev pub data_length_on : ℕ → Frame → ℕ
data_length_on s (Data t end_stream bytes) = if t == s then length bytes else 0
data_length_on s _ = 0

-- a stream's send window: the initial size, all updates for it, less all DATA put on it
abbrev pub window : List Entry → ℕ → Credit
window d s = record {
  initial = initial_window_size d;
  change = pos (sum_by (increment_for s) (received_frames d)) -ℤ pos
      (sum_by (data_length_on s) (sent_frames d));
}

abbrev pub connection_window : List Entry → Credit
connection_window d = record {
  initial = INITIAL_SIZE;
  change = pos (sum_by (increment_for 0) (received_frames d)) -ℤ pos
      (sum_by data_length (sent_frames d));
}
