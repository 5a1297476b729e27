-- What may be put on a stream (RFC 9113 section 6.9.1).
use Rattle.std.specs.Prelude.{◌≡◌, ℕ, ◌==◌, Bool, true, false, ◌&&◌, pos, ◌≤ℤ◌}
use Rattle.std.specs.List.{list_any}
use Rattle.std.specs.Int.Signed.{lt_z}
use Rattle.http2_flow.specs.Credit.{window_left}
use Rattle.http2_frames.specs.declared.frame.Frame.TheVariants.{Settings, Ping, WindowUpdate}
use Rattle.http2_streams.specs.declared.stream.Stream.{Stream}
use Rattle.http2_streams.specs.History.{Entry, Unreadable, Out, Took}
use Rattle.http2_streams.specs.Standing.{Standing}
use Rattle.http2_streams.specs.Rules.{is_live_at}
use Rattle.http2_streams.specs.Step.{without_stream}

-- stream s has a window for fewer than n bytes
abbrev pub lacks : ℕ → ℕ → Stream → Bool
lacks s n x = x.number == s && lt_z (window_left x.window) (pos n)

-- the stream is open or half-closed, and both windows are for n bytes or more
pub record CanSend (v : Standing) (s n : ℕ) : Type 0 where
  pub live : is_live_at v s ≡ true
  pub stream : list_any (lacks s n) v.live ≡ false
  pub connection : pos n ≤ℤ window_left v.connection_window

-- what was put on stream s: all other streams are as they were, and the connection's window has not
-- grown
pub record LeavesOthers (s : ℕ) (v w : Standing) : Type 0 where
  pub live : without_stream s w.live ≡ without_stream s v.live
  pub connection : window_left w.connection_window ≤ℤ window_left v.connection_window

-- an entry that no notion of the streams reads
abbrev pub IsNoMatter : Entry → Type 0
IsNoMatter (Took n) = Unit {0}
IsNoMatter (Unreadable e) = Unit {0}
IsNoMatter (Out (Settings ack settings)) = Unit {0}
IsNoMatter (Out (Ping ack opaque_data)) = Unit {0}
IsNoMatter (Out (WindowUpdate s increment)) = Unit {0}
IsNoMatter _ = ⊥
