-- Instances over one pool of texts.
use Rattle.std.specs.Prelude.{◌≡◌, ◌≤◌, ◌+◌, ℕ, List, [], ◌∷◌, length, map}
use Rattle.std.specs.List.{AllByRecursion}
use Rattle.blob_pool.specs.Slots.{Slots, text_at, count_at}
use Rattle.blob_pool.specs.Moves.{Holders}
use Rattle.server_events.specs.Configs.{instance_limit}
use Rattle.served_instance.specs.StandsFor.{ServedState, IsServedWithin}
use Rattle.served_instance.specs.Slots.{ServedSlots, served_state_in, holders_of}
use Rattle.served_instance.specs.Ranges.{RangesEndWithin, HaveFewSources, AreTidy}

-- the instances, with the texts that their slots have in the pool
abbrev pub all_in : Slots → List ServedSlots → List ServedState
all_in p xs = map (served_state_in p) xs

-- how often they hold each slot, all together
abbrev pub all_holders : List ServedSlots → Holders
all_holders [] k = 0
all_holders (x ∷ xs) k = holders_of x k + all_holders xs k

-- each range of an instance ends within the text of its source, no connection has too many of a
-- slot, and none holds a source of a range that is over
pub record HasRanges (p : Slots) (x : ServedSlots) : Type 0 where
  pub fit : RangesEndWithin (text_at p) x.connections
  pub few : HaveFewSources x.connections
  pub tidy : AreTidy x.connections

-- the pool and the instances of a server
pub record IsServer (p : Slots) (xs : List ServedSlots) : Type 0 where
  -- the pool counts the instances, and nothing else
  pub exact : (k : ℕ) → count_at p k ≡ all_holders xs k
  pub few : length xs ≤ instance_limit
  pub within : AllByRecursion IsServedWithin (all_in p xs)
  pub ranges : AllByRecursion (HasRanges p) xs
