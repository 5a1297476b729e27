-- The decoder's table has the codes: a test that is computed once, and what it says of a window.
use Rattle.std.proofs.Common.{Bool, ◌≡◌, ℕ, ◌+◌, ◌-◌, ◌*◌, ◌/◌, ◌^◌, ◌==◌, ◌<◌, ◌≤◌, nat_lt, nat_le, true, ◌&&◌, List, [], ◌∷◌, length, drop, get_or, slice_index, refl, sym, ap, ◌∙◌, arith, ◌||◌, inl, inr}
use Rattle.std.proofs.lemmas.Bool.{or_cases, and_parts, ltb-true, leb-true, eqb-true}
use Rattle.std.proofs.lemmas.List.{drop_more, drop_all}
use Rattle.std.proofs.lemmas.Nat.{shr-shr, pow_pos, le-div, div_below}
use Rattle.hpack_huffman.specs.declared.code.Codes.{Codes}
use Rattle.hpack_huffman.specs.declared.code.TheConstants.{SHORT_LENGTHS, SHORT_SYMBOLS, CODES, SYMBOLS, EOS}
use Rattle.hpack_huffman.specs.Lengths.{lengths}
use Rattle.hpack_huffman.specs.Code.{bits, code_length, count_of, first_code, code_value, code}
use Rattle.hpack_huffman.proofs.BitLists.{bits-add}
use Rattle.hpack_huffman.specs.Table.{all_below, count_to, entry_ok, row_ok, rows_ok, IsInRows, IsIn, AreShort, OpensWith}
use Rattle.hpack_huffman.proofs.Canonical.{all_below_at}

table_ok : rows_ok 0 CODES ≡ true
unfolding lengths code_length count_of first_code code_value entry_ok row_ok rows_ok
table_ok = refl

pub among_all : (window : ℕ) → IsInRows window CODES
among_all window = record { start = 0; above = omega arith; rows = table_ok }

among_none : (window : ℕ) → window < EOS → IsInRows window [] → ⊥
unfolding rows_ok
among_none window lt h = let end = eqb-true h.start EOS h.rows in let above = h.above in omega arith

among_rest : (window : ℕ) (c : Codes) (cs : List Codes) → c.limit ≤ window → IsInRows window (c ∷ cs) → IsInRows window cs
unfolding rows_ok
among_rest window c cs le h = record { start = c.limit; above = le; rows = (and_parts (row_ok h.start c) (rows_ok c.limit cs) h.rows).1 }

among_here : (window : ℕ) (c : Codes) (cs : List Codes) → window < c.limit → IsInRows window (c ∷ cs) → IsIn window c
unfolding rows_ok row_ok entry_ok code
among_here window c cs lt h =
    let low = 2 ^ (30 - c.length) in
    let number = window / low in
    let count = count_to c h.start in
    let more = number - c.first in
    let symbol = slice_index SYMBOLS (c.place + more) in
    let row = and_parts (nat_le c.length 30 && c.first * low == h.start)
    (c.limit == (c.first + count) * low && all_below (entry_ok c) count)
    ((and_parts (row_ok h.start c) (rows_ok c.limit cs) h.rows).0) in
    let head = and_parts (nat_le c.length 30) (c.first * low == h.start) row.0 in
    let tail = and_parts (c.limit == (c.first + count) * low) (all_below (entry_ok c) count) row.1 in
    let short : c.length ≤ 30 = leb-true c.length 30 head.0 in
    let start : c.first * low ≡ h.start = eqb-true (c.first * low) h.start head.1 in
    let limit : c.limit ≡ (c.first + count) * low = eqb-true c.limit ((c.first + count) * low) tail.0 in
    let positive : 0 < low = pow_pos (30 - c.length) in
    let begin : c.first * low ≤ window = let above = h.above in omega arith in
    let above : c.first ≤ number = le-div c.first window low positive begin in
    let end : window < (c.first + count) * low = omega arith in
    let below : number < c.first + count = div_below window low (c.first + count) positive end in
    let entry = all_below_at (entry_ok c) count more tail.1 (omega arith) in
    let place = and_parts (nat_lt (c.place + more) 256) (code_length symbol == c.length && code_value symbol == c.first + more) entry in
    let values = and_parts (code_length symbol == c.length) (code_value symbol == c.first + more) place.1 in
    let len : code_length symbol ≡ c.length = eqb-true (code_length symbol) c.length values.0 in
    let num : code_value symbol ≡ number = let e = eqb-true (code_value symbol) (c.first + more) values.1 in omega arith in
    let whole : 30 ≡ c.length + (30 - c.length) = omega arith in
    record {
      short = short;
      above = above;
      listed = ltb-true (c.place + more) 256 place.0;
      code = record {
        short = short;
        known = sym len;
        opens = rw (len, num) (ap (λ (k : ℕ). bits k window) whole ∙ bits-add c.length (30 - c.length) window);
      };
    }

-- the same at a place of the whole table
pub among_at : (window : ℕ) (rows : List Codes) (i : ℕ) (d : Codes) → i < length rows → window < (get_or rows i d).limit →
    IsInRows window (drop i rows) → IsIn window (get_or rows i d)
among_at window rows i d there lt h = among_here window (get_or rows i d) (drop (i + 1) rows) lt (rw (← drop_more rows i d there) h)

pub among_next : (window : ℕ) (rows : List Codes) (i : ℕ) (d : Codes) → i < length rows → (get_or rows i d).limit ≤ window →
    IsInRows window (drop i rows) → IsInRows window (drop (i + 1) rows)
among_next window rows i d there le h = among_rest window (get_or rows i d) (drop (i + 1) rows) le (rw (← drop_more rows i d there) h)

pub among_end : (window : ℕ) (rows : List Codes) (i : ℕ) → window < EOS → length rows ≤ i → IsInRows window (drop i rows) → ⊥
among_end window rows i lt past h = among_none window lt (rw (← drop_all i rows past) h)

-- ---- codes that are not longer than an octet

-- the octet begins with no short code, or with this one
unfoldable short_ok : ℕ → ℕ → ℕ → Bool
short_ok length symbol octet = (length == 0) ||
    (nat_le length 8 && (code_length symbol == length && code_value symbol == octet / 2 ^ (8 - length)))

all_short : all_below (λ octet. short_ok (slice_index SHORT_LENGTHS octet) (slice_index SHORT_SYMBOLS octet) octet) 256 ≡ true
unfolding lengths code_length count_of first_code code_value short_ok
all_short = refl

short_here : (window length symbol : ℕ) → short_ok length symbol (window / 2 ^ 22) ≡ true → (length ≡ 0 → ⊥) →
    OpensWith window symbol length
unfolding short_ok code
short_here window length symbol h some =
    let octet = window / 2 ^ 22 in
    elim (or_cases (length == 0) (nat_le length 8 && (code_length symbol == length && code_value symbol == octet / 2 ^ (8 - length))) h) [
      | inl none ↦ absurd (some (eqb-true length 0 none))
      | inr found ↦
          let parts = and_parts (nat_le length 8) (code_length symbol == length && code_value symbol == octet / 2 ^ (8 - length)) found in
          let values = and_parts (code_length symbol == length) (code_value symbol == octet / 2 ^ (8 - length)) parts.1 in
          let short : length ≤ 8 = leb-true length 8 parts.0 in
          let len : code_length symbol ≡ length = eqb-true (code_length symbol) length values.0 in
          let low : 22 + (8 - length) ≡ 30 - length = omega arith in
          let num : code_value symbol ≡ window / 2 ^ (30 - length) =
          eqb-true (code_value symbol) (octet / 2 ^ (8 - length)) values.1 ∙ shr-shr window 22 (8 - length)
          ∙ ap (λ (k : ℕ). window / 2 ^ k) low in
          let whole : 30 ≡ length + (30 - length) = omega arith in
          record {
            short = omega arith;
            known = sym len;
            opens = rw (len, num) (ap (λ (k : ℕ). bits k window) whole ∙ bits-add length (30 - length) window);
          }
    ]

pub are_short : AreShort SHORT_LENGTHS SHORT_SYMBOLS
are_short window lt some =
    let octet = window / 2 ^ 22 in
    short_here window (slice_index SHORT_LENGTHS octet) (slice_index SHORT_SYMBOLS octet)
    (all_below_at (λ octet. short_ok (slice_index SHORT_LENGTHS octet) (slice_index SHORT_SYMBOLS octet) octet) 256 octet all_short
    (omega arith)) some
