-- What is read of the digits of a size.
use Rattle.std.proofs.Common.{◌≡◌, ℕ, ◌<◌, ◌==◌, ◌^◌, Bool, true, false, not, ◌&&◌, ◌||◌, lit<, List, length, None, Err, refl, arith}
use Rattle.std.proofs.lemmas.Bool.Decides.{nat_tests}
use Rattle.std.specs.List.{list_all, starts_with}
use Rattle.std.specs.Prelude.{nat_lt, nat_eq, codes}
use Rattle.std.specs.Str.{bytes_eq}
use Rattle.std.proofs.lemmas.Slice.Eq.{bytes_eq-Decides}
use Rattle.std.specs.Str.Parse.{ParsesUnsigned, digits_value}
use Rattle.numerals.specs.Number.{is_decimal_digit}
use Rattle.numerals.proofs.NumberLemmas.{AllDigits-from_list_all, without_leading_plus-digits}
use Rattle.resource_names.specs.Size.{is_numeral, size_in}

some_digits : (text : List ℕ) (zero some first all : Bool) → (zero ≡ true → text ≡ codes "0")
    → not (length text == 0) ≡ some → list_all is_decimal_digit text ≡ all → (zero || (some && first && all)) ≡ true
    → (0 < length text) × (list_all is_decimal_digit text ≡ true)
some_digits text true some first all z s a h = rw (z refl) (lit< tt, refl)
some_digits text false true true true z s a h = (grind (arith, nat_tests), a)
some_digits text false true true false z s a h = cc
some_digits text false true false all z s a h = cc
some_digits text false false first all z s a h = cc

-- a numeral has a digit at least, and nothing else
pub numeral_digits : (text : List ℕ) → is_numeral text ≡ true → (0 < length text) × (list_all is_decimal_digit text ≡ true)
numeral_digits text h =
    some_digits text (bytes_eq text (codes "0")) (not (length text == 0)) (not (starts_with nat_eq text (codes "0")))
    (list_all is_decimal_digit text)
    (λ e. (bytes_eq-Decides text (codes "0")).0 e) refl refl h

-- a numeral that does not parse is no size
pub unparsed_size : {E : Type 0} (text : List ℕ) (e : E) → is_numeral text ≡ true → ParsesUnsigned 64 10 text (Err e) → size_in text ≡ None
unparsed_size text e h p = go (nat_lt (digits_value 10 text) (2 ^ 63)) refl
  where
    digits : (0 < length text) × (list_all is_decimal_digit text ≡ true)
    digits = numeral_digits text h

    go : (fits : Bool) → nat_lt (digits_value 10 text) (2 ^ 63) ≡ fits → size_in text ≡ None
    go true f =
        let q = rw (without_leading_plus-digits text digits.1) at p in
        absurd (q ((digits.0, AllDigits-from_list_all text digits.1), grind (arith, nat_tests)))
    go false f = rw (h, f) refl
