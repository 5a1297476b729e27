-- The first bad line.
use Rattle.std.proofs.Common.{◌≡◌, ℕ, ◌+◌, List, [], ◌∷◌, ◌++◌, length, Option, Some, None, Ok, Err, refl, sym, ap, ◌∙◌, arith}
use Rattle.std.specs.Option.{option_map_or}
use Rattle.script.specs.FirstBadLine.{IsFirstBadLine, Leads, after_lines}

-- what reading a line first tells
after_lines-step : {S : Type 0} (after_line : S → List ℕ → Option S) (number : ℕ) (from : S) (line : List ℕ) (lines : List (List ℕ))
    (r : Option S)
    → after_line from line ≡ r
    → after_lines after_line number from (line ∷ lines)
    ≡ option_map_or (λ next. after_lines after_line (number + 1) next lines) r (Err number)
after_lines-step after_line number from line lines r e = rw e refl

pub Leads-from_Ok : {S : Type 0} (after_line : S → List ℕ → Option S) (number : ℕ) (from to : S) (lines : List (List ℕ))
    → after_lines after_line number from lines ≡ Ok to → Leads after_line from lines to
Leads-from_Ok after_line number from to [] h = cc
Leads-from_Ok {S = S} after_line number from to (line ∷ lines) h =
    go (λ next. Leads-from_Ok after_line (number + 1) next to lines) (after_line from line) refl
  where
    go : ((next : S) → after_lines after_line (number + 1) next lines ≡ Ok to → Leads after_line next lines to)
        → (r : Option S) → after_line from line ≡ r → Leads after_line from (line ∷ lines) to
    go later (Some next) e = (next, e, later next (sym (after_lines-step after_line number from line lines (Some next) e) ∙ h))
    go later None e = let k : Err number ≡ Ok to = sym (after_lines-step after_line number from line lines None e) ∙ h in cc

pub Ok-from_Leads : {S : Type 0} (after_line : S → List ℕ → Option S) (number : ℕ) (from to : S) (lines : List (List ℕ))
    → Leads after_line from lines to → after_lines after_line number from lines ≡ Ok to
Ok-from_Leads after_line number from to [] h = ap Ok h
Ok-from_Leads after_line number from to (line ∷ lines) h =
    after_lines-step after_line number from line lines (Some h.0) h.1 ∙ Ok-from_Leads after_line (number + 1) h.0 to lines h.2

-- the first bad line after others, where the first of the lines has this number
pub record IsFirstBadAfter {S : Type 0} (after_line : S → List ℕ → Option S) (first : ℕ) (from : S) (lines : List (List ℕ))
    (number : ℕ) : Type 0 where
  pub front : List (List ℕ)
  pub line : List ℕ
  pub back : List (List ℕ)
  pub made : S
  pub whole : lines ≡ front ++ line ∷ back
  pub place : number ≡ length front + first
  pub good : Leads after_line from front made
  pub bad : after_line made line ≡ None

pub IsFirstBadAfter-from_Err : {S : Type 0} (after_line : S → List ℕ → Option S) (first : ℕ) (from : S) (lines : List (List ℕ)) (number : ℕ)
    → after_lines after_line first from lines ≡ Err number → IsFirstBadAfter after_line first from lines number
IsFirstBadAfter-from_Err after_line first from [] number h = cc
IsFirstBadAfter-from_Err {S = S} after_line first from (line ∷ lines) number h =
    go (λ next. IsFirstBadAfter-from_Err after_line (first + 1) next lines number) (after_line from line) refl
  where
    go : ((next : S) → after_lines after_line (first + 1) next lines ≡ Err number →
        IsFirstBadAfter after_line (first + 1) next lines number)
        → (r : Option S) → after_line from line ≡ r → IsFirstBadAfter after_line first from (line ∷ lines) number
    go more (Some next) e =
        let later = more next (sym (after_lines-step after_line first from line lines (Some next) e) ∙ h) in
        let place = later.place in
        record {
          front = line ∷ later.front;
          line = later.line;
          back = later.back;
          made = later.made;
          whole = ap (λ rest. line ∷ rest) later.whole;
          place = omega arith;
          good = (next, e, later.good);
          bad = later.bad;
        }
    go more None e =
        let k : Err number ≡ Err first = sym h ∙ after_lines-step after_line first from line lines None e in
        record {
          front = [];
          line = line;
          back = lines;
          made = from;
          whole = refl;
          place = (let same : number ≡ first = cc in omega arith);
          good = refl;
          bad = e;
        }

after_front : {S : Type 0} (after_line : S → List ℕ → Option S) (first : ℕ) (from made : S) (front : List (List ℕ)) (line : List ℕ)
    (back : List (List ℕ)) (number : ℕ)
    → Leads after_line from front made → after_line made line ≡ None → number ≡ length front + first
    → after_lines after_line first from (front ++ line ∷ back) ≡ Err number
after_front after_line first from made [] line back number good bad place =
    let here : after_line from line ≡ None = rw good bad in
    let same : first ≡ number = omega arith in
    after_lines-step after_line first from line back None here ∙ ap Err same
after_front after_line first from made (next ∷ front) line back number good bad place =
    after_lines-step after_line first from next (front ++ line ∷ back) (Some good.0) good.1
    ∙ after_front after_line (first + 1) good.0 made front line back number good.2 bad (omega arith)

pub Err-from_IsFirstBadLine : {S : Type 0} (after_line : S → List ℕ → Option S) (empty : S) (lines : List (List ℕ)) (number : ℕ)
    → IsFirstBadLine after_line empty lines number → after_lines after_line 1 empty lines ≡ Err number
Err-from_IsFirstBadLine after_line empty lines number h =
    rw (h.whole) (after_front after_line 1 empty h.made h.front h.line h.back number h.good h.bad h.place)

pub IsFirstBadLine-from_Err : {S : Type 0} (after_line : S → List ℕ → Option S) (empty : S) (lines : List (List ℕ)) (number : ℕ)
    → after_lines after_line 1 empty lines ≡ Err number → IsFirstBadLine after_line empty lines number
IsFirstBadLine-from_Err after_line empty lines number h =
    let found = IsFirstBadAfter-from_Err after_line 1 empty lines number h in
    record {
      front = found.front;
      line = found.line;
      back = found.back;
      made = found.made;
      whole = found.whole;
      place = found.place;
      good = found.good;
      bad = found.bad;
    }
