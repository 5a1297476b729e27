-- Texts that are read a line at a time, each line adding to what those before it made; and the
-- first bad line of such a text.
use Rattle.std.specs.Prelude.{◌≡◌, ℕ, ◌+◌, List, [], ◌∷◌, ◌++◌, length, Option, Some, None, Result, Ok, Err}
use Rattle.std.specs.Option.{option_map_or}

-- what lines make of what there was, or the number of the first bad one, where the first of them
-- has this number
abbrev pub after_lines : {S : Type 0} → (S → List ℕ → Option S) → ℕ → S → List (List ℕ) → Result S ℕ
after_lines after_line number from [] = Ok from
after_lines after_line number from (line ∷ lines) =
    option_map_or (λ next. after_lines after_line (number + 1) next lines)
    (after_line from line) (Err number)

-- the lines lead, one after the other, from what there was to more
abbrev pub Leads : {S : Type 0} → (S → List ℕ → Option S) → S → List (List ℕ) → S → Type 0
Leads after_line from [] to = from ≡ to
Leads {S = S} after_line from (line ∷ lines) to =
    (next : S) × (after_line from line ≡ Some next) × Leads after_line next lines to

-- the line of that number, counted from 1, is bad after the lines before it, and those are good
pub record IsFirstBadLine {S : Type 0} (after_line : S → List ℕ → Option S) (empty : S)
    (lines : List (List ℕ)) (number : ℕ) : Type 0 where
  pub front : List (List ℕ)
  pub line : List ℕ
  pub back : List (List ℕ)
  pub made : S
  pub whole : lines ≡ front ++ line ∷ back
  pub place : number ≡ length front + 1
  pub good : Leads after_line empty front made
  pub bad : after_line made line ≡ None
