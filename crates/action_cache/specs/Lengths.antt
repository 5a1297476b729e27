-- For the code alone: no promise speaks of it.
use Rattle.std.specs.Prelude.{ℕ, List, length, Option, Some, None}

-- how long bytes are, and 0 for none
abbrev pub length_or_zero : Option (List ℕ) → ℕ
length_or_zero None = 0
length_or_zero (Some text) = length text
