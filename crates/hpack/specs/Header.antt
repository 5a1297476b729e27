-- Header fields: RFC 7541, section 1.3.
use Rattle.std.specs.Prelude.{ℕ, ◌+◌, List, [], ◌∷◌, length, Option, Some, None, if◌then◌else◌}
use Rattle.std.specs.Str.{bytes_eq}

-- a name and a value, each any sequence of octets
pub record Header : Type 0 where
  pub name : List ℕ
  pub value : List ℕ

-- what a field counts for, in the dynamic table (RFC 7541, section 4.1) and in a field list
-- (RFC 9113, section 6.5.2)
abbrev pub size_of : Header → ℕ
size_of h = length h.name + length h.value + 32

abbrev pub total_size : List Header → ℕ
total_size [] = 0
total_size (h ∷ hs) = size_of h + total_size hs

-- the value of the first field of a name
abbrev pub value_of : List ℕ → List Header → Option (List ℕ)
value_of name [] = None
value_of name (h ∷ hs) = if bytes_eq h.name name then Some h.value else value_of name hs
