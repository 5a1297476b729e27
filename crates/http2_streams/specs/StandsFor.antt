-- What is kept of a connection stands for its history.
use Rattle.std.specs.Prelude.{◌≡◌, ◌<◌, ℕ, false, List, sum_by, Result, Ok, Err}
use Rattle.http2_streams.specs.declared.fault.ConnectionFault.{ConnectionFault}
use Rattle.http2_streams.specs.declared.fault.ConnectionFault.TheVariants.{Connection, NoMemory}
use Rattle.http2_streams.specs.History.{Entry, has_failed, highest_stream, received_frames, sent_frames, is_reset, is_ended_by_client, is_ended_by_server, increment_for, data_length_on}
use Rattle.http2_streams.specs.Standing.{Standing, standing}

-- nothing has passed on a stream that was never opened
pub record IsUntouched (d : List Entry) (s : ℕ) : Type 0 where
  pub unreset : is_reset d s ≡ false
  pub unended_by_client : is_ended_by_client d s ≡ false
  pub unended_by_server : is_ended_by_server d s ≡ false
  pub granted : sum_by (increment_for s) (received_frames d) ≡ 0
  pub spent : sum_by (data_length_on s) (sent_frames d) ≡ 0

pub record IsStandingOf (v : Standing) (d : List Entry) : Type 0 where
  pub is : v ≡ standing d
  pub idle : (s : ℕ) → highest_stream d < s → IsUntouched d s

-- all that is kept is what the history comes to; after a connection error only that there was one
pub record AreStreams (v : Standing) (d : List Entry) : Type 0 where
  pub fault : v.failed ≡ has_failed d
  pub state : has_failed d ≡ false → IsStandingOf v d

-- the fact, but where memory ran out
abbrev pub InMemory : {A : Type 0} → Result A ConnectionFault → Type 0 → Type 0
InMemory (Ok x) P = P
InMemory (Err (Connection code)) P = P
InMemory (Err NoMemory) P = Unit {0}
