-- For the code alone: no promise speaks of it.
use Rattle.std.specs.Prelude.{◌≡◌, ℕ, List, ◌++◌}
use Rattle.resource_names.specs.Segments.{segments_of}

-- a text ends with these bytes, which begin a segment
pub record IsRest (text rest : List ℕ) : Type 0 where
  pub passed : List (List ℕ)
  pub front : segments_of text ≡ passed ++ segments_of rest
