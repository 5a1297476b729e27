-- What a connection's history comes to.
use Rattle.std.specs.Prelude.{ℕ, Bool, List, map, Option}
use Rattle.hpack.specs.Table.{Table}
use Rattle.http2_flow.specs.Credit.{Credit}
use Rattle.http2_streams.specs.HeaderBlock.{HeaderBlock}
use Rattle.http2_streams.specs.declared.stream.Stream.{Stream}
use Rattle.http2_streams.specs.History.{Entry, has_failed, has_begun, highest_stream, is_ended_by_client, is_ended_by_server, window, live_streams, remembered_streams, initial_window_size, connection_window, unfinished_block, table}

pub record Standing : Type 0 where
  pub failed : Bool
  pub begun : Bool
  -- the highest stream number that was opened
  pub highest : ℕ
  -- the live streams in rising order
  pub live : List Stream
  pub remembered : List ℕ
  pub initial_window_size : ℕ
  pub connection_window : Credit
  pub unfinished : Option HeaderBlock
  pub table : Option Table

abbrev pub stream_at : List Entry → ℕ → Stream
stream_at d s = record {
  number = s;
  ended_by_client = is_ended_by_client d s;
  ended_by_server = is_ended_by_server d s;
  window = window d s;
}

abbrev pub standing : List Entry → Standing
standing d = record {
  failed = has_failed d;
  begun = has_begun d;
  highest = highest_stream d;
  live = map (stream_at d) (live_streams d);
  remembered = remembered_streams d;
  initial_window_size = initial_window_size d;
  connection_window = connection_window d;
  unfinished = unfinished_block d;
  table = table d;
}
