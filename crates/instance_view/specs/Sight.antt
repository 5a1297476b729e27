-- What an instance sees: its own texts, and those that its parent has besides.
use Rattle.std.specs.Prelude.{◌+◌, List, ◌++◌}
use Rattle.blob_pool.specs.Slots.{Slots}
use Rattle.blob_pool.specs.Moves.{Holders}
use Rattle.instance_view.specs.Visible.{Blob}
use Rattle.instance_view.specs.Shown.{ViewValue, visible_in, holders}

pub record SightValue : Type 0 where
  pub own : ViewValue
  pub parent : ViewValue

-- the instance's own texts come first: of a digest that both have, the own text is seen
abbrev pub seen_in : Slots → SightValue → List Blob
seen_in p s = visible_in p s.own ++ visible_in p s.parent

-- how often the two hold each slot
abbrev pub sight_holders : SightValue → Holders
sight_holders s k = holders s.own k + holders s.parent k

-- what an instance with these texts sees, whose parent has those
abbrev pub sight_of : ViewValue → ViewValue → SightValue
sight_of v w = record { own = v; parent = w }
