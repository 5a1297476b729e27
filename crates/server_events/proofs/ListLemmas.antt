-- Tests over the values of a list.
use Rattle.std.proofs.Common.{◌≡◌, ℕ, ◌+◌, Bool, true, false, cond, ◌||◌, List, [], ◌∷◌, ◌++◌, length, map, Some, None, refl, sym, ap, ◌∙◌, arith}
use Rattle.std.specs.List.{All, list_any, position, position_from}
use Rattle.std.proofs.lemmas.Iterator.Adapters.{position_from-zero}
use Rattle.std.proofs.lemmas.List.Elements.{All-nil, All-cons, All-head, All-tail}

pub list_any-map : {X Y : Type 0} (p : Y → Bool) (f : X → Y) (xs : List X) → list_any p (map f xs) ≡ list_any (λ x. p (f x)) xs
list_any-map p f [] = refl
list_any-map p f (x ∷ xs) = ap (λ b. p (f x) || b) (list_any-map p f xs)

-- ---- the first that passes

from-map : {X Y : Type 0} (p : Y → Bool) (f : X → Y) (i : ℕ) (xs : List X) →
    position_from p i (map f xs) ≡ position_from (λ x. p (f x)) i xs
from-map p f i [] = refl
from-map p f i (x ∷ xs) = ap (cond (p (f x)) (Some i)) (from-map p f (i + 1) xs)

by_from : {X : Type 0} (p : X → Bool) (xs : List X) → position p xs ≡ position_from p 0 xs
by_from p xs = position_from-zero p xs

pub position-map : {X Y : Type 0} (p : Y → Bool) (f : X → Y) (xs : List X) → position p (map f xs) ≡ position (λ x. p (f x)) xs
position-map p f xs = by_from p (map f xs) ∙ from-map p f 0 xs ∙ sym (by_from (λ x. p (f x)) xs)

none_from : {X : Type 0} (p : X → Bool) (i : ℕ) (xs : List X) → position_from p i xs ≡ None → All (λ x. p x ≡ false) xs
none_from p i [] h = All-nil (λ x. p x ≡ false)
none_from {X = X} p i (x ∷ xs) h = go (none_from p (i + 1) xs) (p x) refl h
  where
    go : (position_from p (i + 1) xs ≡ None → All (λ y. p y ≡ false) xs) → (b : Bool) → p x ≡ b →
        cond b (Some i) (position_from p (i + 1) xs) ≡ None → All (λ y. p y ≡ false) (x ∷ xs)
    go later true e h = cc
    go later false e h = All-cons (λ y. p y ≡ false) x xs e (later h)

pub none_passes : {X : Type 0} (p : X → Bool) (xs : List X) → position p xs ≡ None → All (λ x. p x ≡ false) xs
none_passes p xs h = none_from p 0 xs (sym (by_from p xs) ∙ h)

from_none : {X : Type 0} (p : X → Bool) (i : ℕ) (xs : List X) → All (λ x. p x ≡ false) xs → position_from p i xs ≡ None
from_none p i [] h = refl
from_none p i (x ∷ xs) h =
    ap (λ b. cond b (Some i) (position_from p (i + 1) xs)) (All-head (λ y. p y ≡ false) x xs h)
    ∙ from_none p (i + 1) xs (All-tail (λ y. p y ≡ false) x xs h)

pub passes_none : {X : Type 0} (p : X → Bool) (xs : List X) → All (λ x. p x ≡ false) xs → position p xs ≡ None
passes_none p xs h = by_from p xs ∙ from_none p 0 xs h

from_seam : {X : Type 0} (p : X → Bool) (i : ℕ) (front : List X) (x : X) (back : List X) → All (λ y. p y ≡ false) front → p x ≡ true
    → position_from p i (front ++ x ∷ back) ≡ Some (i + length front)
from_seam p i [] x back h e = ap (λ b. cond b (Some i) (position_from p (i + 1) back)) e ∙ ap Some (omega arith)
from_seam p i (first ∷ front) x back h e =
    ap (λ b. cond b (Some i) (position_from p (i + 1) (front ++ x ∷ back))) (All-head (λ y. p y ≡ false) first front h)
    ∙ from_seam p (i + 1) front x back (All-tail (λ y. p y ≡ false) first front h) e ∙ ap Some (omega arith)

pub position_seam : {X : Type 0} (p : X → Bool) (front : List X) (x : X) (back : List X) → All (λ y. p y ≡ false) front → p x ≡ true
    → position p (front ++ x ∷ back) ≡ Some (length front)
position_seam p front x back h e = by_from p (front ++ x ∷ back) ∙ from_seam p 0 front x back h e ∙ ap Some (omega arith)

-- what stands before the first that passes, and after it
pub record IsSeam {X : Type 0} (p : X → Bool) (xs : List X) (n : ℕ) : Type 0 where
  pub front : List X
  pub here : X
  pub back : List X
  pub whole : xs ≡ front ++ here ∷ back
  pub before : All (λ x. p x ≡ false) front
  pub passes : p here ≡ true
  pub place : length front ≡ n

some_from : {X : Type 0} (p : X → Bool) (i n : ℕ) (xs : List X) → position_from p i xs ≡ Some n → (k : ℕ) × IsSeam p xs k × (n ≡ i + k)
some_from p i n [] h = cc
some_from {X = X} p i n (x ∷ xs) h = go (some_from p (i + 1) n xs) (p x) refl h
  where
    go : (position_from p (i + 1) xs ≡ Some n → (k : ℕ) × IsSeam p xs k × (n ≡ (i + 1) + k)) → (b : Bool) → p x ≡ b →
        cond b (Some i) (position_from p (i + 1) xs) ≡ Some n
        → (k : ℕ) × IsSeam p (x ∷ xs) k × (n ≡ i + k)
    go later true e h =
        let same : i ≡ n = cc in (
          0,
          record { front = []; here = x; back = xs; whole = refl; before = All-nil (λ y. p y ≡ false); passes = e; place = refl },
          omega
              arith,
        )
    go later false e h =
        let found = later h in
        let seam = found.1 in (
          found.0 + 1,
          record {
            front = x ∷ seam.front;
            here = seam.here;
            back = seam.back;
            whole = ap (λ ys. x ∷ ys) seam.whole;
            before = All-cons (λ y. p y ≡ false) x seam.front e seam.before;
            passes = seam.passes;
            place = let same = seam.place in omega arith;
          },
          omega (arith, found.2),
        )

pub seam_at : {X : Type 0} (p : X → Bool) (xs : List X) (n : ℕ) → position p xs ≡ Some n → IsSeam p xs n
seam_at p xs n h =
    let found = some_from p 0 n xs (sym (by_from p xs) ∙ h) in
    let seam = found.1 in
    record {
      front = seam.front;
      here = seam.here;
      back = seam.back;
      whole = seam.whole;
      before = seam.before;
      passes = seam.passes;
      place =
          seam.place ∙ omega (arith, found.2);
    }
