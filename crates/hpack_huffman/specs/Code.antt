-- The code of RFC 7541, section 5.2 and appendix B, from its lengths alone: symbols are taken by
-- their length and then by their number. A code is one more than that of the symbol taken before it,
-- with as many zero bits behind it as the code is longer.
use Rattle.std.specs.Prelude.{ℕ, zero, suc, ◌+◌, ◌*◌, ◌/◌, ◌%◌, ◌^◌, List, [], ◌∷◌, take, slice_index, count_by, ◌==◌}
use Rattle.std.specs.List.{flat_map}
use Rattle.hpack_huffman.specs.Lengths.{lengths}

-- the symbol that stands in no text
abbrev pub eos : ℕ
eos = 256

-- the lowest bits of a number, so many of them, the highest first
unfoldable pub bits : ℕ → ℕ → List ℕ
bits zero n = []
bits (suc count) n = n / 2 ^ count % 2 ∷ bits count n

-- the bits of octets, each from its highest
unfoldable pub bits_of : List ℕ → List ℕ
bits_of octets = flat_map (bits 8) octets

unfoldable pub code_length : ℕ → ℕ
code_length symbol = slice_index lengths symbol

-- how many of these lengths are n
unfoldable pub count_of : ℕ → List ℕ → ℕ
count_of n ls = count_by (λ l. l == n) ls

-- what comes after the last code of the length before, shifted left
unfoldable pub first_code : ℕ → ℕ
first_code zero = 0
first_code (suc n) = 2 * (first_code n + count_of n lengths)

-- a symbol's code as a number: the first of its length, and one more for each lower symbol of that
-- length
unfoldable pub code_value : ℕ → ℕ
code_value symbol =
    first_code (code_length symbol) + count_of (code_length symbol) (take symbol lengths)

unfoldable pub code : ℕ → List ℕ
code symbol = bits (code_length symbol) (code_value symbol)

-- the codes of symbols, one after another
unfoldable pub codes_of : List ℕ → List ℕ
codes_of symbols = flat_map code symbols
