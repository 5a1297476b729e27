-- The ranges that connections have still to put: what they are with the texts of their sources, and
-- which they hold.
use Rattle.std.specs.Prelude.{◌≡◌, ◌+◌, ℕ, List, []}
use Rattle.std.specs.List.{flat_map, AllByRecursion}
use Rattle.blob_pool.specs.Slots.{Slots}
use Rattle.blob_pool.specs.Moves.{Moves, no_holders}
use Rattle.grpc_sending.specs.SortedQueues.{AreSorted}
use Rattle.grpc_sending.specs.Sources.{count_of}
use Rattle.grpc_sending.specs.StoredSending.{SourceTexts, StoredSending, QueuesEndWithin, HasFewSources, KeepsFit, KeepsSources, new_stored_sending, sending_in, sources_of}
use Rattle.conn_core.specs.StandsFor.{ConnectionValue}
use Rattle.served_instance.specs.StandsFor.{ServedConnection, SeenConnection}

-- ---- with their texts

abbrev pub seen_with : SourceTexts → ServedConnection → SeenConnection
seen_with texts s = record {
  number = s.number;
  connection = record s.connection { sending = new_stored_sending };
  sending = sending_in texts s.connection.sending;
}

-- ---- their sources

-- the sources of the ranges of all connections, each as often as it is held
abbrev pub sources_at : List ServedConnection → List ℕ
sources_at vs = flat_map (λ s. sources_of s.connection.sending) vs

-- how often a slot of a pool is held by ranges
abbrev pub range_holders : List ServedConnection → ℕ → ℕ
range_holders vs k = count_of k (sources_at vs)

-- no source of a range that is over waits to be released, and queues stand in rising order of their
-- streams
abbrev pub IsTidy : StoredSending → Type 0
IsTidy w = (w.spent ≡ []) × AreSorted w.queues

abbrev pub AreTidy : List ServedConnection → Type 0
AreTidy vs = AllByRecursion (λ s. IsTidy s.connection.sending) vs

-- each range ends within the text of its source
abbrev pub RangesEndWithin : SourceTexts → List ServedConnection → Type 0
RangesEndWithin texts vs =
    AllByRecursion (λ s. QueuesEndWithin texts s.connection.sending.queues) vs

-- each connection has fewer ranges of a slot than 64 bits can count
abbrev pub HaveFewSources : List ServedConnection → Type 0
HaveFewSources vs = AllByRecursion (λ s. HasFewSources s.connection.sending) vs

-- ---- what a call comes to

-- the same sources are held, each as often, and their ranges stay within their texts
pub record KeepsRanges (v w : ConnectionValue) : Type 0 where
  pub sources : KeepsSources v.sending w.sending
  pub fit : KeepsFit v.sending w.sending

pub record AllKeepRanges (vs ws : List ServedConnection) : Type 0 where
  pub sources : (k : ℕ) → range_holders ws k ≡ range_holders vs k
  pub few : HaveFewSources vs → HaveFewSources ws
  pub fit : (texts : SourceTexts) → RangesEndWithin texts vs → RangesEndWithin texts ws

-- some are not held any more, and were released in the pool
pub record Releases (p : Slots) (vs : List ServedConnection)
    (q : Slots) (ws : List ServedConnection) : Type 0 where
  pub gone : List ℕ
  pub sources : (k : ℕ) → range_holders ws k + count_of k gone ≡ range_holders vs k
  pub few : HaveFewSources vs → HaveFewSources ws
  pub fit : (texts : SourceTexts) → RangesEndWithin texts vs → RangesEndWithin texts ws
  pub moves : Moves p q (λ k. count_of k gone) no_holders
