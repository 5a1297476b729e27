-- What a part of a text is.
use Rattle.std.specs.Prelude.{◌≡◌, ◌≤◌, ◌<◌, ◌+◌, ℕ, List, [], ◌++◌, length, drop}

-- the bytes from a place on begin with these, of which there are at most so many; there are none
-- at the end alone, or where none are wanted
pub record IsPart (text : List ℕ) (from most : ℕ) (part : List ℕ) : Type 0 where
  pub follows : drop from text ≡ part ++ drop (from + length part) text
  pub short : length part ≤ most
  pub last : 0 < most → part ≡ [] → drop from text ≡ []
