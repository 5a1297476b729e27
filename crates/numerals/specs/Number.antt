-- Numbers in decimal.
use Rattle.std.specs.Prelude.{ℕ, ◌^◌, Bool, ◌&&◌, nat_lt, nat_le, not, ◌==◌, if◌then◌else◌, List, length, Option, Some, None}
use Rattle.std.specs.List.{list_all}
use Rattle.std.specs.Str.Parse.{digits_value}

-- one of `0` to `9` (bytes 48 to 57)
abbrev pub is_decimal_digit : ℕ → Bool
is_decimal_digit byte = nat_le 48 byte && nat_le byte 57

-- one decimal digit or more, and nothing else
abbrev pub is_decimal : List ℕ → Bool
is_decimal word = not (length word == 0) && list_all is_decimal_digit word

-- the number that a word writes in decimal; leading zeros count nothing
abbrev pub decimal_value : List ℕ → ℕ
decimal_value word = digits_value 10 word

-- the number below 2^64 that a word writes, or none where it writes no such number
abbrev pub decimal_of : List ℕ → Option ℕ
decimal_of word =
    if is_decimal word && nat_lt (decimal_value word) (2 ^ 64)
    then Some (decimal_value word) else None
