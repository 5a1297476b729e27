-- What a decoder's table has to say for it to have the codes. These are tests, so that the checker
-- computes them. For the code alone: no public contract speaks of it.
use Rattle.std.specs.Prelude.{◌≡◌, ◌≢◌, ℕ, zero, suc, ◌+◌, ◌-◌, ◌*◌, ◌/◌, ◌^◌, ◌==◌, ◌<◌, ◌≤◌, nat_lt, nat_le, Bool, true, ◌&&◌, List, [], ◌∷◌, ◌++◌, slice_index}
use Rattle.hpack_huffman.specs.declared.code.Codes.{Codes}
use Rattle.hpack_huffman.specs.declared.code.TheConstants.{SYMBOLS, EOS}
use Rattle.hpack_huffman.specs.Code.{bits, code_length, code_value, code}

-- p holds of each number below n
abbrev pub all_below : (ℕ → Bool) → ℕ → Bool
all_below p zero = true
all_below p (suc n) = p n && all_below p n

-- how many codes lie between two windows
abbrev pub count_to : Codes → ℕ → ℕ
count_to c start = (c.limit - start) / 2 ^ (30 - c.length)

-- the symbol in a place has the code that stands for the place
unfoldable pub entry_ok : Codes → ℕ → Bool
entry_ok c more =
    nat_lt (c.place + more) 256
    && (code_length (slice_index SYMBOLS (c.place + more)) == c.length
    && code_value (slice_index SYMBOLS (c.place + more)) == c.first + more)

unfoldable pub row_ok : ℕ → Codes → Bool
row_ok start c = (nat_le c.length 30 && c.first * 2 ^ (30 - c.length) == start)
    && (c.limit == (c.first + count_to c start) * 2 ^ (30 - c.length)
    && all_below (entry_ok c) (count_to c start))

-- the rows follow one another up to EOS
unfoldable pub rows_ok : ℕ → List Codes → Bool
rows_ok start [] = start == EOS
rows_ok start (c ∷ cs) = row_ok start c && rows_ok c.limit cs

-- the window is none of the codes before these rows
pub record IsInRows (window : ℕ) (left : List Codes) : Type 0 where
  pub start : ℕ
  pub above : start ≤ window
  pub rows : rows_ok start left ≡ true

-- thirty bits begin with the code of a symbol, which has this length
pub record OpensWith (window symbol length : ℕ) : Type 0 where
  pub short : length ≤ 30
  pub known : length ≡ code_length symbol
  pub opens : bits 30 window ≡ code symbol ++ bits (30 - length) window

-- where a row says that the symbol of a window stands
abbrev pub symbol_place : Codes → ℕ → ℕ
symbol_place c window = c.place + (window / 2 ^ (30 - c.length) - c.first)

-- a row has the code of a window
pub record IsIn (window : ℕ) (c : Codes) : Type 0 where
  pub short : c.length ≤ 30
  pub above : c.first ≤ window / 2 ^ (30 - c.length)
  pub listed : symbol_place c window < 256
  pub code : OpensWith window (slice_index SYMBOLS (symbol_place c window)) c.length

-- where the tables by the first octet of a window have a code, it is the window's
abbrev pub AreShort : List ℕ → List ℕ → Type 0
AreShort lengths symbols = (window : ℕ) → window < EOS → slice_index lengths (window / 2 ^ 22) ≢ 0
    → OpensWith window (slice_index symbols (window / 2 ^ 22))
    (slice_index lengths (window / 2 ^ 22))
