-- How many lines a text has, and when a list has no items.
use Rattle.std.proofs.Common.{◌≡◌, ℕ, ◌+◌, ◌≤◌, ◌==◌, true, List, [], ◌∷◌, length, refl, arith}
use Rattle.std.proofs.lemmas.Bool.Decides.{nat_tests}
use Rattle.std.proofs.lemmas.List.Splits.{length-slice_split}
use Rattle.std.proofs.lemmas.List.Sums.{count_by-le-length}
use Rattle.script.specs.Parts.{lines_of}

pub length-lines_of : (text : List ℕ) → length (lines_of text) ≤ length text + 1
length-lines_of text =
    let parts = length-slice_split (λ byte. byte == 10) text in
    let few = count_by-le-length (λ byte. byte == 10) text in
    omega (arith, parts, few)

-- a list of no items is empty
pub nothing_left : {X : Type 0} (xs : List X) → (length xs == 0) ≡ true → xs ≡ []
nothing_left [] h = refl
nothing_left (x ∷ xs) h = absurd (grind (arith, nat_tests))
