-- That what is read is what a word writes.
use Rattle.std.proofs.Common.{◌≡◌, ℕ, zero, suc, ◌<◌, ◌≤◌, ◌==◌, ◌^◌, ◌*◌, ◌+◌, ◌-◌, ◌++◌, Bool, true, false, not, List, [], ◌∷◌, length, take, Option, Some, None, refl, sym, ap, ◌∙◌, inl, inr, arith}
use Rattle.std.proofs.lemmas.Bool.{and_parts}
use Rattle.std.proofs.lemmas.Bool.Decides.{nat_tests}
use Rattle.std.proofs.lemmas.List.{length-append}
use Rattle.std.specs.List.{list_all}
use Rattle.std.specs.Prelude.{nat_lt, option_and_then, slice_get}
use Rattle.numerals.specs.Number.{is_decimal, is_decimal_digit, decimal_of, decimal_value}
use Rattle.command_line.specs.Size.{IsPlainSize, IsSize, IsUnitSize, in_units, last_unit, size_of, unit_of}
use Rattle.command_line.proofs.SizeLemmas.{size_of-unit}

-- ---- what is read is written

-- the digits and the value of a number that was read
decimal_of-some : (word : List ℕ) (number : ℕ) → decimal_of word ≡ Some number → (is_decimal word ≡ true) × (number ≡ decimal_value word)
decimal_of-some word number read = go (is_decimal word) refl (nat_lt (decimal_value word) (2 ^ 64)) refl
  where
    go : (digits : Bool) → is_decimal word ≡ digits → (fits : Bool) → nat_lt (decimal_value word) (2 ^ 64) ≡ fits →
        (is_decimal word ≡ true) × (number ≡ decimal_value word)
    go true d true f = let some : Some (decimal_value word) ≡ Some number = rw (d, f) at read in (d, cc)
    go true d false f = let none : None ≡ Some number = rw (d, f) at read in cc
    go false d fits f = let none : None ≡ Some number = rw d at read in cc

in_units-some : (unit number bytes : ℕ) → in_units unit number ≡ Some bytes → bytes ≡ number * unit
in_units-some unit number bytes read = go (nat_lt (number * unit) (2 ^ 64)) refl
  where
    go : (fits : Bool) → nat_lt (number * unit) (2 ^ 64) ≡ fits → bytes ≡ number * unit
    go true f = let some : Some (number * unit) ≡ Some bytes = rw f at read in cc
    go false f = let none : None ≡ Some bytes = rw f at read in cc

split_back : (word : List ℕ) (i letter : ℕ) → i + 1 ≡ length word → slice_get word i ≡ Some letter → word ≡ take i word ++ (letter ∷ [])
split_back [] i letter count is = cc
split_back (x ∷ []) zero letter count is = cc
split_back (x ∷ y ∷ word) zero letter count is = absurd (omega (arith, count))
split_back (x ∷ word) (suc i) letter count is = ap (λ w. x ∷ w) (split_back word i letter (omega (arith, count)) is)

some_item : (word : List ℕ) (i letter : ℕ) → slice_get word i ≡ Some letter → i < length word
some_item [] i letter is = cc
some_item (x ∷ word) zero letter is = omega arith
some_item (x ∷ word) (suc i) letter is = let less = some_item word i letter is in omega (arith, less)

pub read_is_written : (word : List ℕ) (bytes : ℕ) → size_of word ≡ Some bytes → IsSize word bytes
read_is_written word bytes read = go (slice_get word (length word - 1)) refl
  where
    units : (letter : ℕ) → slice_get word (length word - 1) ≡ Some letter → (unit : Option ℕ) → unit_of letter ≡ unit → IsSize word bytes
    units letter is None has =
        let last : last_unit word ≡ None = rw is has in
        let plain : decimal_of word ≡ Some bytes = rw last at read in
        inl (decimal_of-some word bytes plain)
    units letter is (Some unit) has = scaled (decimal_of (take (length word - 1) word)) refl
      where
        last : last_unit word ≡ Some unit
        last = rw is has

        scaled : (number : Option ℕ) → decimal_of (take (length word - 1) word) ≡ number → IsSize word bytes
        scaled None none = let gone : None ≡ Some bytes = rw (last, none) at read in cc
        scaled (Some number) some =
            let so_many : in_units unit number ≡ Some bytes = rw (last, some) at read in
            let digits = decimal_of-some (take (length word - 1) word) number some in
            let less = some_item word (length word - 1) letter is in
            inr (record {
              digits = take (length word - 1) word;
              letter = letter;
              unit = unit;
              is_written = split_back word (length word - 1) letter (omega (arith, less)) is;
              is_number = digits.0;
              is_unit = has;
              is_bytes = in_units-some unit number bytes so_many ∙ ap (λ n. n * unit) digits.1;
            })

    go : (letter : Option ℕ) → slice_get word (length word - 1) ≡ letter → IsSize word bytes
    go None none =
        let last : last_unit word ≡ None = rw none refl in
        let plain : decimal_of word ≡ Some bytes = rw last at read in
        inl (decimal_of-some word bytes plain)
    go (Some letter) is = units letter is (unit_of letter) refl

-- ---- what is written is read

digit_at : (word : List ℕ) (i letter : ℕ) → list_all is_decimal_digit word ≡ true → slice_get word i ≡ Some letter →
    is_decimal_digit letter ≡ true
digit_at [] i letter all is = cc
digit_at (x ∷ word) zero letter all is = let first = (and_parts (is_decimal_digit x) (list_all is_decimal_digit word) all).0 in cc
digit_at (x ∷ word) (suc i) letter all is = digit_at word i letter
    (and_parts (is_decimal_digit x) (list_all is_decimal_digit word) all).1 is

digit_is_no_unit : (letter : ℕ) → is_decimal_digit letter ≡ true → unit_of letter ≡ None
digit_is_no_unit letter digit =
    let k : (letter == 75) ≡ false = grind (arith, nat_tests) in
    let m : (letter == 77) ≡ false = grind (arith, nat_tests) in
    let g : (letter == 71) ≡ false = grind (arith, nat_tests) in
    let t : (letter == 84) ≡ false = grind (arith, nat_tests) in
    rw (k, m, g, t) refl

no_unit_behind_digits : (word : List ℕ) → list_all is_decimal_digit word ≡ true → last_unit word ≡ None
no_unit_behind_digits word all = go (slice_get word (length word - 1)) refl
  where
    go : (letter : Option ℕ) → slice_get word (length word - 1) ≡ letter → last_unit word ≡ None
    go None none = rw none refl
    go (Some letter) is = rw is (digit_is_no_unit letter (digit_at word (length word - 1) letter all is))

decimal_of-value : (word : List ℕ) → is_decimal word ≡ true → decimal_value word < 2 ^ 64 → decimal_of word ≡ Some (decimal_value word)
decimal_of-value word digits less =
    let fits : nat_lt (decimal_value word) (2 ^ 64) ≡ true = grind (arith, nat_tests) in
    rw (digits, fits) refl

unit_is_some : (letter unit : ℕ) → unit_of letter ≡ Some unit → 1 ≤ unit
unit_is_some letter unit is = k (letter == 75) refl
  where
    t : (b : Bool) → (letter == 84) ≡ b → (letter == 71) ≡ false → (letter == 77) ≡ false → (letter == 75) ≡ false → 1 ≤ unit
    t true b g m k = let e : Some (2 ^ 40) ≡ Some unit = rw (k, m, g, b) at is in let u : 2 ^ 40 ≡ unit = cc in omega (arith, u)
    t false b g m k = let e : None ≡ Some unit = rw (k, m, g, b) at is in cc

    g : (b : Bool) → (letter == 71) ≡ b → (letter == 77) ≡ false → (letter == 75) ≡ false → 1 ≤ unit
    g true b m k = let e : Some (2 ^ 30) ≡ Some unit = rw (k, m, b) at is in let u : 2 ^ 30 ≡ unit = cc in omega (arith, u)
    g false b m k = t (letter == 84) refl b m k

    m : (b : Bool) → (letter == 77) ≡ b → (letter == 75) ≡ false → 1 ≤ unit
    m true b k = let e : Some (2 ^ 20) ≡ Some unit = rw (k, b) at is in let u : 2 ^ 20 ≡ unit = cc in omega (arith, u)
    m false b k = g (letter == 71) refl b k

    k : (b : Bool) → (letter == 75) ≡ b → 1 ≤ unit
    k true b = let e : Some (2 ^ 10) ≡ Some unit = rw b at is in let u : 2 ^ 10 ≡ unit = cc in omega (arith, u)
    k false b = m (letter == 77) refl b

one_at_least : (number unit : ℕ) → 1 ≤ unit → number ≤ number * unit
one_at_least number zero some = absurd (omega (arith, some))
one_at_least number (suc unit) some = omega arith

plain_is_read : (word : List ℕ) (bytes : ℕ) → bytes < 2 ^ 64 → IsPlainSize word bytes → size_of word ≡ Some bytes
plain_is_read word bytes less is =
    let last = no_unit_behind_digits word (and_parts (not (length word == 0)) (list_all is_decimal_digit word) is.0).1 in
    let fits : decimal_value word < 2 ^ 64 = rw (sym is.1) less in
    rw last (decimal_of-value word is.0 fits ∙ ap Some (sym is.1))

units_are_read : (word : List ℕ) (bytes : ℕ) → bytes < 2 ^ 64 → IsUnitSize word bytes → size_of word ≡ Some bytes
units_are_read word bytes less is =
    let split : length is.digits + 1 ≡ length word = rw is.is_written (sym (length-append is.digits (is.letter ∷ []))) in
    let more = one_at_least (decimal_value is.digits) is.unit (unit_is_some is.letter is.unit is.is_unit) in
    let all : decimal_value is.digits * is.unit < 2 ^ 64 = rw (sym is.is_bytes) less in
    let fits : nat_lt (decimal_value is.digits * is.unit) (2 ^ 64) ≡ true = grind (arith, nat_tests) in
    let few : decimal_value is.digits < 2 ^ 64 = omega (arith, more, all) in
    size_of-unit word is.digits is.letter is.unit (is.is_written, split) is.is_unit
    ∙ ap (option_and_then (in_units is.unit)) (decimal_of-value is.digits is.is_number few)
    ∙ rw fits (ap Some (sym is.is_bytes))

pub written_is_read : (word : List ℕ) (bytes : ℕ) → bytes < 2 ^ 64 → IsSize word bytes → size_of word ≡ Some bytes
written_is_read word bytes less (inl is) = plain_is_read word bytes less is
written_is_read word bytes less (inr is) = units_are_read word bytes less is
