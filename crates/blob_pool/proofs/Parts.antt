-- Parts of a text that follow one another.
use Rattle.std.proofs.Common.{◌≡◌, ℕ, ◌+◌, ◌-◌, ◌%◌, ◌<◌, ◌≤◌, zero, suc, min, Bool, true, false, nat_lt, List, [], ◌∷◌, ◌++◌, length, take, drop, refl, sym, ap, ◌∙◌, append_assoc, arith, length-append}
use Rattle.std.specs.List.{AllByRecursion, concat}
use Rattle.std.proofs.lemmas.List.{append-nil, take_at, take-append-drop, drop_at, drop-drop, drop_all, length-take, length-drop}
use Rattle.std.proofs.lemmas.Nat.{mod_below}
use Rattle.std.proofs.lemmas.Bool.Decides.{nat_tests}
use Rattle.blob_pool.specs.Pages.{part_of}
use Rattle.blob_pool.specs.Parts.{parts_from}

-- a part from a place on, before what follows it
pub part_before : (t page : List ℕ) (from count : ℕ) → page ≡ take count (drop from t) → page ++ drop (from + length page) t ≡ drop from t
part_before t page from count cut =
    let left = drop from t in
    let whole : page ++ drop count left ≡ left = ap (λ (p : List ℕ). p ++ drop count left) cut ∙ take-append-drop count left in
    let later : drop (length page) left ≡ drop count left =
    ap (drop (length page)) (sym whole) ∙ drop_at page (drop count left) (length page) refl in
    ap (λ (r : List ℕ). page ++ r) (sym (drop-drop (length page) from t) ∙ later) ∙ whole

pub record IsNextPart (t page : List ℕ) (from : ℕ) : Type 0 where
  pub some : 0 < length page
  pub within : from + length page ≤ length t

-- a page has a byte at least where some are left
pub next_part : (t page : List ℕ) (size from most : ℕ) → 0 < size → 0 < most → from < length t →
    page ≡ take (min most (size - from % size)) (drop from t) → IsNextPart t page from
next_part t page size from most positive some left cut =
    let room = mod_below from size positive in
    let count = ap (length {A = ℕ}) cut ∙ length-take (min most (size - from % size)) (drop from t) in
    let rest = length-drop from t in
    record { some = omega (arith, room, count, rest); within = omega (arith, room, count, rest) }

-- ---- parts from the beginning on

-- what was read so far, before what is left
read_before : (size : ℕ) (text : List ℕ) (from : ℕ) (mosts : List ℕ)
    → concat (parts_from size text from mosts) ++ drop (from + length (concat (parts_from size text from mosts))) text ≡ drop from text
read_before size text from [] = let none : from + 0 ≡ from = omega arith in ap (λ (n : ℕ). drop n text) none
read_before size text from (most ∷ mosts) =
    let page = part_of size text from most in
    let rest = concat (parts_from size text (from + length page) mosts) in
    let place : from + length (page ++ rest) ≡ (from + length page) + length rest = let both = length-append page rest in
    omega (arith, both) in
    ap (λ (n : ℕ). (page ++ rest) ++ drop n text) place
    ∙ append_assoc page rest (drop ((from + length page) + length rest) text)
    ∙ ap (λ (t : List ℕ). page ++ t) (read_before size text (from + length page) mosts)
    ∙ part_before text page from (min most (size - from % size)) refl

pub front_read : (size : ℕ) (text mosts : List ℕ) →
    take (length (concat (parts_from size text 0 mosts))) text ≡ concat (parts_from size text 0 mosts)
front_read size text mosts =
    let read = concat (parts_from size text 0 mosts) in
    let whole : read ++ drop (0 + length read) text ≡ text = read_before size text 0 mosts in
    ap (take (length read)) (sym whole) ∙ take_at read (drop (0 + length read) text) (length read) refl

pub whole_read : (size : ℕ) (text mosts : List ℕ) → length (concat (parts_from size text 0 mosts)) ≡ length text →
    concat (parts_from size text 0 mosts) ≡ text
whole_read size text mosts same =
    let read = concat (parts_from size text 0 mosts) in
    let whole : read ++ drop (0 + length read) text ≡ text = read_before size text 0 mosts in
    let none : drop (0 + length read) text ≡ [] = drop_all (0 + length read) text (omega (arith, same)) in
    sym (append-nil read) ∙ ap (λ (t : List ℕ). read ++ t) (sym none) ∙ whole

-- each part brings the reading on, and none past the end
record GoesOn (text page : List ℕ) (from : ℕ) : Type 0 where
  on : from < length text → 0 < length page
  within : from + length page ≤ length text

goes_on : (size : ℕ) (text : List ℕ) (from most : ℕ) → 0 < size → 0 < most → from ≤ length text →
    GoesOn text (part_of size text from most) from
goes_on size text from most positive some there =
    let page = part_of size text from most in
    let count = length-take (min most (size - from % size)) (drop from text) in
    let rest = length-drop from text in
    record {
      on = λ left. (next_part text page size from most positive some left refl).some;
      within = omega (arith, count, rest);
    }

ends : (size : ℕ) (text : List ℕ) (from : ℕ) (mosts : List ℕ) → 0 < size → AllByRecursion (λ (most : ℕ). 0 < most) mosts →
    from ≤ length text → length text ≤ from + length mosts
    → from + length (concat (parts_from size text from mosts)) ≡ length text
ends size text from [] positive some there enough = omega arith
ends size text from (most ∷ mosts) positive some there enough =
    let page = part_of size text from most in
    let step = goes_on size text from most positive some.0 there in
    let rest = concat (parts_from size text (from + length page) mosts) in
    let near : length text ≤ (from + length page) + length mosts =
    reach (length text) from (length page) (length mosts) (omega (arith, enough)) there step.on in
    let later = ends size text (from + length page) mosts positive some.1 step.within near in
    let both : length (page ++ rest) ≡ length page + length rest = length-append page rest in
    omega (arith, later, both)
  where
    reach : (t from n m : ℕ) → t ≤ from + (1 + m) → from ≤ t → (from < t → 0 < n) → t ≤ (from + n) + m
    reach t from zero m enough there on = go (nat_lt from t) refl where
      go : (b : Bool) → nat_lt from t ≡ b → t ≤ (from + 0) + m
      go true is = let less : from < t = grind (arith, nat_tests) in absurd (let more = on less in omega arith)
      go false is = let all : t ≤ from = grind (arith, nat_tests) in omega (arith, all)
    reach t from (suc n) m enough there on = omega arith

pub all_read : (size : ℕ) (text mosts : List ℕ) → 0 < size → AllByRecursion (λ (most : ℕ). 0 < most) mosts → length text ≤ length mosts →
    concat (parts_from size text 0 mosts) ≡ text
all_read size text mosts positive some enough =
    let end = ends size text 0 mosts positive some (omega arith) (omega (arith, enough)) in
    whole_read size text mosts (omega (arith, end))
