-- Indices past the static table are those of the dynamic table.
use Rattle.std.proofs.Common.{◌≡◌, ℕ, ◌-◌, ◌<◌, ◌≤◌, false, eqb, zero, suc, List, [], ◌∷◌, ◌++◌, length, slice_get, Option, Some, None, Bor, refl, sym, ap, ◌∙◌, arith}
use Rattle.std.proofs.lemmas.Bool.Decides.{nat_tests}
use Rattle.std.proofs.lemmas.Option.{slice_get_past, slice_get_read}
use Rattle.std.specs.Option.{option_copied}
use Rattle.std.specs.Slice.{IsItemAt}
use Rattle.hpack.specs.Header.{Header}
use Rattle.hpack.specs.StaticTable.{static_table}
use Rattle.hpack.specs.Table.{header_by_index}

pub static_length : length static_table ≡ 61
unfolding static_table
static_length = refl

slice_get-append_left : (xs ys : List Header) (i : ℕ) → i < length xs → slice_get (xs ++ ys) i ≡ slice_get xs i
slice_get-append_left [] ys i lt = absurd (omega arith)
slice_get-append_left (x ∷ xs) ys zero lt = refl
slice_get-append_left (x ∷ xs) ys (suc i) lt = slice_get-append_left xs ys i (omega arith)

slice_get-append : (xs ys : List Header) (i : ℕ) → length xs ≤ i → slice_get (xs ++ ys) i ≡ slice_get ys (i - length xs)
slice_get-append [] ys i le = ap (slice_get ys) (omega arith)
slice_get-append (x ∷ xs) ys zero le = absurd (omega arith)
slice_get-append (x ∷ xs) ys (suc i) le = slice_get-append xs ys i (omega arith) ∙ ap (slice_get ys) (omega arith)

pub indexed_static : (entries : List Header) (index : ℕ) → 0 < index → index ≤ 61 →
    header_by_index entries index ≡ slice_get static_table (index - 1)
indexed_static entries index some near =
    let long = static_length in
    let test : eqb index 0 ≡ false = grind (arith, nat_tests) in
    rw test (slice_get-append_left static_table entries (index - 1) (omega arith))

pub indexed_dynamic : (entries : List Header) (index : ℕ) → 61 < index → header_by_index entries index ≡ slice_get entries (index - 1 - 61)
indexed_dynamic entries index far =
    let long = static_length in
    let test : eqb index 0 ≡ false = grind (arith, nat_tests) in
    rw test (slice_get-append static_table entries (index - 1) (omega arith) ∙ ap (slice_get entries) (omega arith))

pub copied_get : (r : Option (Bor Header)) (xs : List Header) (i : ℕ) → IsItemAt xs i r → option_copied r ≡ slice_get xs i
copied_get None xs i h = sym (slice_get_past xs i h.3)
copied_get (Some x) xs i h = sym (slice_get_read xs (length xs) i x.now refl h.3.0 h.1)
