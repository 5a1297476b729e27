-- Sizes as resource names write them.
use Rattle.std.specs.Prelude.{ℕ, ◌^◌, Bool, ◌&&◌, ◌||◌, not, nat_eq, nat_lt, ◌==◌, List, length, Option, Some, None, if◌then◌else◌, codes}
use Rattle.std.specs.List.{list_all, starts_with}
use Rattle.std.specs.Str.{bytes_eq}
use Rattle.std.specs.Str.Parse.{digits_value}
use Rattle.numerals.specs.Number.{is_decimal_digit}

-- `0`, or decimal digits of which the first is not `0`
abbrev pub is_numeral : List ℕ → Bool
is_numeral text =
    bytes_eq text (codes "0")
    || (not (length text == 0) && not (starts_with nat_eq text (codes "0"))
    && list_all is_decimal_digit text)

-- sizes are below this limit: what an int64 can tell, as `size_bytes` of a digest does
-- (remote_execution.proto, "Digest")
abbrev pub size_limit : ℕ
size_limit = 2 ^ 63

-- the size that a segment writes, if it writes one
abbrev pub size_in : List ℕ → Option ℕ
size_in text =
    if is_numeral text && nat_lt (digits_value 10 text) size_limit
    then Some (digits_value 10 text) else None
