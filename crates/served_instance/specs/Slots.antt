-- What an instance with its connections keeps of its own, and what that is in a pool of texts.
use Rattle.std.specs.Prelude.{◌≡◌, ℕ, ◌+◌, ◌≤◌, ◌<◌, ◌^◌, List, map}
use Rattle.blob_pool.specs.Slots.{Slots, text_at, count_at}
use Rattle.blob_pool.specs.Moves.{Holders}
use Rattle.instance_core.specs.Slots.{InstanceSlots, state_in, holders_of_instance}
use Rattle.instance_core.specs.InstanceViewShown.{ViewValue, visible_in, holders}
use Rattle.instance_core.specs.Visible.{Blob}
use Rattle.instance_core.specs.Naming.{Names}
use Rattle.std.specs.List.{AllByRecursion}
use Rattle.served_instance.specs.Connections.{open_ones}
use Rattle.served_instance.specs.Lone.{LoneInstance}
use Rattle.served_instance.specs.StandsFor.{ServedConnection, ServedState, AreServed, IsServedWithin}
use Rattle.served_instance.specs.Ranges.{seen_with, sources_at, range_holders, RangesEndWithin, HaveFewSources}

-- the instance, whose texts stand in slots, and its open connections, whose ranges are of texts in
-- slots
pub record ServedSlots : Type 0 where
  pub instance : InstanceSlots
  pub connections : List ServedConnection

-- with the texts that a pool has in the slots
abbrev pub served_state_in : Slots → ServedSlots → ServedState
served_state_in p v = record {
  state = state_in p v.instance;
  connections = map (seen_with (text_at p)) v.connections;
  ranges = map (text_at p) (sources_at v.connections);
}

-- how often it holds each slot: by the entries of its instance, and by the ranges of its
-- connections
abbrev pub holders_of : ServedSlots → Holders
holders_of v k = holders_of_instance v.instance k + range_holders v.connections k

-- the pool counts it among its holders, and it keeps its limits
pub record IsServedInPool (p : Slots) (v : ServedSlots) : Type 0 where
  pub counted : (k : ℕ) → holders_of v k ≤ count_at p k
  -- but for it there are fewer than 2^125 holders of any slot
  pub others : (k : ℕ) → count_at p k < holders_of v k + 2 ^ 125
  pub within : IsServedWithin (served_state_in p v)
  pub fit : RangesEndWithin (text_at p) v.connections
  pub few : HaveFewSources v.connections

-- the pool counts what its parent holds beside what it holds, and its parent's texts are what their
-- digests say
pub record IsServedBeside (p : Slots) (parent : ViewValue) (v : ServedSlots) : Type 0 where
  pub counted : (k : ℕ) → holders_of v k + holders parent k ≤ count_at p k
  pub named : AllByRecursion (λ (b : Blob). Names b.0 b.1) (visible_in p parent)

-- it stands for an instance by itself, but for what has to be released still. For the code alone
pub record StandsIn (p : Slots) (v : ServedSlots) (l : LoneInstance) : Type 0 where
  pub state : state_in p v.instance ≡ l.state
  pub connections : AreServed (text_at p) v.connections (open_ones l.connections)

-- its open connections stand for those of an instance by itself, by the texts of some pool
pub record HasConnections (v : ServedSlots) (l : LoneInstance) : Type 0 where
  pub pool : Slots
  pub stand : AreServed (text_at pool) v.connections (open_ones l.connections)
