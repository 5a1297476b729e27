-- What `parse` reads of a word of digits.
use Rattle.std.proofs.Common.{◌≡◌, ℕ, ◌<◌, ◌==◌, ◌^◌, Bool, true, false, not, ◌&&◌, List, [], ◌∷◌, length, Some, None, Result, Ok, Err, cond, refl, sym, ap, ◌∙◌, arith}
use Rattle.std.proofs.lemmas.Bool.{and_parts}
use Rattle.std.proofs.lemmas.Bool.Decides.{nat_tests}
use Rattle.std.proofs.lemmas.Fmt.{IsAscii-from_digits}
use Rattle.std.proofs.lemmas.Str.{IsUtf8-from_ascii}
use Rattle.std.specs.Char.{digit_value}
use Rattle.std.specs.List.{list_all}
use Rattle.std.specs.Prelude.{nat_lt}
use Rattle.std.specs.Result.{OkIff, result_ok}
use Rattle.std.specs.Str.{IsUtf8}
use Rattle.std.specs.Str.Parse.{AllDigits, IsNumeral, ParsesUnsigned, without_leading_plus}
use Rattle.numerals.specs.Number.{is_decimal_digit, decimal_of, decimal_value}

digit_below_ten : (byte : ℕ) → is_decimal_digit byte ≡ true → digit_value byte < 10
digit_below_ten byte h = grind (arith, nat_tests)

pub AllDigits-from_list_all : (word : List ℕ) → list_all is_decimal_digit word ≡ true → AllDigits 10 word
AllDigits-from_list_all [] h = tt
AllDigits-from_list_all (byte ∷ word) h =
    let parts = and_parts (is_decimal_digit byte) (list_all is_decimal_digit word) h in
    (digit_below_ten byte parts.0, AllDigits-from_list_all word parts.1)

-- a word of digits is text
pub IsUtf8-digits : (word : List ℕ) → list_all is_decimal_digit word ≡ true → IsUtf8 word
IsUtf8-digits word h = IsUtf8-from_ascii word (IsAscii-from_digits word (AllDigits-from_list_all word h))

-- no word of digits begins with a plus
pub without_leading_plus-digits : (word : List ℕ) → list_all is_decimal_digit word ≡ true → without_leading_plus word ≡ word
without_leading_plus-digits [] h = refl
without_leading_plus-digits (byte ∷ word) h =
    let parts = and_parts (is_decimal_digit byte) (list_all is_decimal_digit word) h in
    let digit = parts.0 in
    let other : (byte == 43) ≡ false = grind (arith, nat_tests) in
    rw other refl

-- what is parsed is the number that the word writes
pub parsed : {E : Type 0} (word : List ℕ) (r : Result ℕ E) → list_all is_decimal_digit word ≡ true → ParsesUnsigned 64 10 word r
    → result_ok r ≡ decimal_of word
parsed {E = E} word r h p = go r (rw (without_leading_plus-digits word h) at p) (not (length word == 0)) refl
    (nat_lt (decimal_value word) (2 ^ 64)) refl
  where
    go : (r : Result ℕ E) → OkIff r (IsNumeral 10 word × (decimal_value word < 2 ^ 64)) (decimal_value word)
        → (some : Bool) → not (length word == 0) ≡ some → (fits : Bool) → nat_lt (decimal_value word) (2 ^ 64) ≡ fits
        → result_ok r ≡ decimal_of word
    go (Ok n) p true s true f = rw (s, h, f) (ap Some p.1)
    go (Ok n) p true s false f = absurd (grind (arith, nat_tests))
    go (Ok n) p false s fits f = absurd (grind (arith, nat_tests))
    go (Err e) p true s true f = absurd (p ((grind (arith, nat_tests), AllDigits-from_list_all word h), grind (arith, nat_tests)))
    go (Err e) p true s false f = rw (s, h, f) refl
    go (Err e) p false s fits f = rw s refl

-- and no word of another kind writes one
pub decimal_of-none : (word : List ℕ) → list_all is_decimal_digit word ≡ false → decimal_of word ≡ None
decimal_of-none word h = rw h (go (not (length word == 0)))
  where
    go : (some : Bool) → cond ((some && false) && nat_lt (decimal_value word) (2 ^ 64)) (Some (decimal_value word)) None ≡ None
    go true = refl
    go false = refl

digit_of_value : (byte : ℕ) → digit_value byte < 10 → is_decimal_digit byte ≡ true
digit_of_value byte h = grind (arith, nat_tests)

list_all-from_AllDigits : (word : List ℕ) → AllDigits 10 word → list_all is_decimal_digit word ≡ true
list_all-from_AllDigits [] h = refl
list_all-from_AllDigits (byte ∷ word) h = rw (digit_of_value byte h.0) (list_all-from_AllDigits word h.1)

-- a numeral is read as its number, where that is below 2^64
pub decimal_of-numeral : (word : List ℕ) (number : ℕ) → IsNumeral 10 word → decimal_value word ≡ number → number < 2 ^ 64
    → decimal_of word ≡ Some number
decimal_of-numeral word number h e lt =
    let value = decimal_value word in
    let some : not (length word == 0) ≡ true = let l = h.0 in grind (arith, nat_tests) in
    let fits : nat_lt (decimal_value word) (2 ^ 64) ≡ true = rw e (grind (arith, nat_tests)) in
    rw (some, list_all-from_AllDigits word h.1, fits) (ap Some e)

-- a word that writes a number has digits alone
pub digits-decimal_of : (word : List ℕ) (number : ℕ) → decimal_of word ≡ Some number → list_all is_decimal_digit word ≡ true
digits-decimal_of word number h = go (list_all is_decimal_digit word) refl
  where
    go : (digits : Bool) → list_all is_decimal_digit word ≡ digits → list_all is_decimal_digit word ≡ true
    go true e = e
    go false e = let none : None ≡ Some number = sym (decimal_of-none word e) ∙ h in cc
