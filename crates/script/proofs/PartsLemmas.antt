-- The first part of a text, from the place of its first separator.
use Rattle.std.proofs.Common.{◌≡◌, ℕ, ◌+◌, ◌-◌, ◌<◌, ◌≤◌, ◌==◌, Bool, true, false, List, [], ◌∷◌, length, take, drop, Option, Some, None, cond, refl, arith}
use Rattle.std.proofs.lemmas.Bool.Decides.{nat_tests}
use Rattle.std.proofs.lemmas.List.{take_rest}
use Rattle.std.proofs.lemmas.List.Splits.{slice_split_first, slice_split_none}
use Rattle.std.proofs.lemmas.List.Sums.{fails_before_first}
use Rattle.std.specs.List.{position_or_len}
use Rattle.std.specs.Prelude.{nat_lt}
use Rattle.script.specs.Parts.{parts_of}

-- where the first separator stands, or the text's length where there is none
abbrev pub place_of : ℕ → List ℕ → ℕ
place_of separator text = position_or_len (λ byte. byte == separator) text

-- what `position` answers of it
abbrev pub found_place : ℕ → List ℕ → Option ℕ
found_place separator text =
    cond (nat_lt (place_of separator text) (length text)) (Some (place_of separator text)) None

found_some : (b : Bool) (place at : ℕ) → Some at ≡ cond b (Some place) None → (b ≡ true) × (place ≡ at)
found_some true place at e = (refl, cc)
found_some false place at e = cc

found_none : (b : Bool) (place : ℕ) → None ≡ cond b (Some place) None → b ≡ false
found_none true place e = cc
found_none false place e = refl

pub parts_at : (separator : ℕ) (text : List ℕ) (at : ℕ) → Some at ≡ found_place separator text
    → parts_of separator text ≡ take at text ∷ parts_of separator (take (length text - (at + 1)) (drop (at + 1) text))
parts_at separator text at e =
    let found = found_some (nat_lt (place_of separator text) (length text)) (place_of separator text) at e in
    let within : place_of separator text < length text = let t = found.0 in grind (arith, nat_tests) in
    rw take_rest (rw (← found.1) (slice_split_first (λ byte. byte == separator) text 0 within))

pub parts_none : (separator : ℕ) (text : List ℕ) → None ≡ found_place separator text → parts_of separator text ≡ text ∷ []
parts_none separator text e =
    let past = found_none (nat_lt (place_of separator text) (length text)) (place_of separator text) e in
    let far : length text ≤ place_of separator text = grind (arith, nat_tests) in
    slice_split_none (λ byte. byte == separator) text
    (λ k d lt. fails_before_first (λ byte. byte == separator) text k d (omega arith))
