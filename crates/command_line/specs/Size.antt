-- Numbers of bytes, as options write them: `1000`, `500M`, `8G`.
use Rattle.std.specs.Prelude.{◌≡◌, ◌⊎◌, ◌*◌, ◌^◌, ◌-◌, ◌==◌, ◌++◌, ℕ, true, nat_lt, if◌then◌else◌, List, [], ◌∷◌, length, take, Option, Some, None, option_and_then, slice_get}
use Rattle.numerals.specs.Number.{decimal_of, decimal_value, is_decimal}

-- how many bytes are in the unit of a letter: in `K`, `M`, `G` and `T` (75, 77, 71, 84) the first
-- four powers of 1,024
abbrev pub unit_of : ℕ → Option ℕ
unit_of letter =
    if letter == 75 then Some (2 ^ 10) else (if letter == 77 then Some (2 ^ 20)
    else (if letter == 71 then Some (2 ^ 30) else (if letter == 84 then Some (2 ^ 40)
    else None)))

-- a word of decimal digits is a number of bytes
abbrev pub IsPlainSize : List ℕ → ℕ → Type 0
IsPlainSize word bytes = (is_decimal word ≡ true) × (bytes ≡ decimal_value word)

-- so are decimal digits with the letter of a unit behind them: so many units
pub record IsUnitSize (word : List ℕ) (bytes : ℕ) : Type 0 where
  pub digits : List ℕ
  pub letter : ℕ
  pub unit : ℕ
  pub is_written : word ≡ digits ++ (letter ∷ [])
  pub is_number : is_decimal digits ≡ true
  pub is_unit : unit_of letter ≡ Some unit
  pub is_bytes : bytes ≡ decimal_value digits * unit

-- and no other word is one
abbrev pub IsSize : List ℕ → ℕ → Type 0
IsSize word bytes = IsPlainSize word bytes ⊎ IsUnitSize word bytes

-- ---- as it is read

-- the number of bytes in so many units, where it is below 2^64
abbrev pub in_units : ℕ → ℕ → Option ℕ
in_units unit number = if nat_lt (number * unit) (2 ^ 64) then Some (number * unit) else None

-- the unit of the last letter of a word
abbrev pub last_unit : List ℕ → Option ℕ
last_unit word = option_and_then unit_of (slice_get word (length word - 1))

abbrev pub size_in : Option ℕ → List ℕ → Option ℕ
size_in None word = decimal_of word
size_in (Some unit) word =
    option_and_then (in_units unit) (decimal_of (take (length word - 1) word))

-- the number of bytes below 2^64 that a word writes
abbrev pub size_of : List ℕ → Option ℕ
size_of word = size_in (last_unit word) word
