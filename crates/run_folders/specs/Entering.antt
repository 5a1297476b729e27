-- Going down a path.
use Rattle.std.specs.Prelude.{◌≡◌, ℕ, List, ◌++◌, Option}
use Rattle.system.specs.Places.{place_below}

-- a path from one place on leads through another one, and this is left of it from there
pub record LeadsThrough (from here : Option (List (List ℕ))) (path left : List (List ℕ)) : Type 0 where
  pub front : List (List ℕ)
  pub at : here ≡ place_below from front
  pub whole : path ≡ front ++ left
