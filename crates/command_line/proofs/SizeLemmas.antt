-- What is read of a word that writes a number of bytes.
use Rattle.std.proofs.Common.{◌≡◌, ℕ, ◌<◌, ◌^◌, ◌*◌, ◌+◌, ◌-◌, ◌++◌, Bool, true, false, List, [], ◌∷◌, length, take, Option, Some, None, refl, ap, ◌∙◌, arith}
use Rattle.std.proofs.lemmas.Bool.Decides.{nat_tests}
use Rattle.std.proofs.Math.Seq.{take-append_seam}
use Rattle.std.specs.Option.{SomeIff}
use Rattle.std.specs.Prelude.{nat_lt, option_and_then, slice_get}
use Rattle.numerals.specs.Number.{decimal_of}
use Rattle.command_line.specs.Size.{in_units, last_unit, size_of, unit_of}

last_item : (rest : List ℕ) (letter : ℕ) → slice_get (rest ++ (letter ∷ [])) (length rest) ≡ Some letter
last_item [] letter = refl
last_item (x ∷ rest) letter = last_item rest letter

last_place : (rest word : List ℕ) → length rest + 1 ≡ length word → length word - 1 ≡ length rest
last_place rest word count = omega (arith, count)

last_unit-is : (word rest : List ℕ) (letter : ℕ) → word ≡ rest ++ (letter ∷ []) → length rest + 1 ≡ length word →
    last_unit word ≡ unit_of letter
last_unit-is word rest letter is count =
    rw (last_place rest word count, is, last_item rest letter) refl

-- a word whose last letter is that of a unit
pub size_of-unit : (word rest : List ℕ) (letter unit : ℕ) → (word ≡ rest ++ (letter ∷ [])) × (length rest + 1 ≡ length word) →
    unit_of letter ≡ Some unit
    → size_of word ≡ option_and_then (in_units unit) (decimal_of rest)
size_of-unit word rest letter unit split has =
    let last = last_unit-is word rest letter split.0 split.1 ∙ has in
    let front : take (length word - 1) word ≡ rest = rw (last_place rest word split.1, split.0) (take-append_seam rest (letter ∷ [])) in
    rw (last, front) refl

-- and one whose last letter is not
pub size_of-plain : (word rest : List ℕ) (letter : ℕ) → (word ≡ rest ++ (letter ∷ [])) × (length rest + 1 ≡ length word) →
    unit_of letter ≡ None
    → size_of word ≡ decimal_of word
size_of-plain word rest letter split has =
    let last = last_unit-is word rest letter split.0 split.1 ∙ has in
    rw last refl

pub multiplied : (r : Option ℕ) (number unit : ℕ) → SomeIff r (number * unit < 2 ^ 64) (number * unit) → r ≡ in_units unit number
multiplied (Some n) number unit is = let fits : nat_lt (number * unit) (2 ^ 64) ≡ true = let lt = is.0 in grind (arith, nat_tests) in
    rw fits (ap Some is.1)
multiplied None number unit is = go (nat_lt (number * unit) (2 ^ 64)) refl
  where
    go : (fits : Bool) → nat_lt (number * unit) (2 ^ 64) ≡ fits → None ≡ in_units unit number
    go false f = rw f refl
    go true f = absurd (is (grind (arith, nat_tests)))
