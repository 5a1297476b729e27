-- Elements of a list by their places.
use Rattle.std.proofs.Common.{◌≡◌, ◌≢◌, ◌⊎◌, ℕ, zero, suc, ◌<◌, ◌≤◌, List, [], ◌∷◌, ◌++◌, length, get_or, take, refl, sym, ap, ◌∙◌, arith, inl, inr}
use Rattle.std.specs.Prelude.{Option, Some, None, IfSome, is_some, nat_lt}
use Rattle.std.proofs.lemmas.Bool.Decides.{nat_tests}
use Rattle.std.proofs.lemmas.Option.{slice_get-get_or}
use Rattle.std.specs.Option.{option_map}
use Rattle.std.specs.List.{slice_get, AllByRecursion}
use Rattle.std.proofs.Math.ListN.{set}
use Rattle.std.proofs.Math.Seq.{take-append_seam}

pub get-append : {X : Type 0} (xs ys : List X) (i : ℕ) (x : X) → slice_get xs i ≡ Some x → slice_get (xs ++ ys) i ≡ Some x
get-append [] ys i x is = cc
get-append (y ∷ xs) ys zero x is = is
get-append (y ∷ xs) ys (suc i) x is = get-append xs ys i x is

pub get-last : {X : Type 0} (xs : List X) (x : X) → slice_get (xs ++ x ∷ []) (length xs) ≡ Some x
get-last [] x = refl
get-last (y ∷ xs) x = get-last xs x

-- what stands behind one more element
pub get-pushed : {X : Type 0} (xs : List X) (y x : X) (i : ℕ) → slice_get (xs ++ y ∷ []) i ≡ Some x →
    (slice_get xs i ≡ Some x) ⊎ ((i ≡ length xs) × (y ≡ x))
get-pushed [] y x zero is = inr (refl, cc)
get-pushed [] y x (suc i) is = inl is
get-pushed (z ∷ xs) y x zero is = inl is
get-pushed (z ∷ xs) y x (suc i) is =
    elim (get-pushed xs y x i is) [
      | inl old ↦ inl old
      | inr new ↦ inr (ap suc new.0, new.1)
    ]

pub get-set_same : {X : Type 0} (xs : List X) (i : ℕ) (y : X) → i < length xs → slice_get (set xs i y) i ≡ Some y
get-set_same [] i y lt = absurd (omega arith)
get-set_same (x ∷ xs) zero y lt = refl
get-set_same (x ∷ xs) (suc i) y lt = get-set_same xs i y (omega arith)

pub get-set_other : {X : Type 0} (xs : List X) (i j : ℕ) (y : X) → j ≢ i → slice_get (set xs i y) j ≡ slice_get xs j
get-set_other [] i j y ne = refl
get-set_other (x ∷ xs) zero zero y ne = absurd (ne refl)
get-set_other (x ∷ xs) zero (suc j) y ne = refl
get-set_other (x ∷ xs) (suc i) zero y ne = refl
get-set_other (x ∷ xs) (suc i) (suc j) y ne = get-set_other xs i j y (λ is. ne (ap suc is))

pub all-push : {X : Type 0} (P : X → Type 0) (xs : List X) (x : X) → AllByRecursion P xs → P x → AllByRecursion P (xs ++ x ∷ [])
all-push P [] x all own = (own, tt)
all-push P (y ∷ xs) x all own = (all.0, all-push P xs x all.1 own)

pub length-none : {X : Type 0} (xs : List X) (i : ℕ) → slice_get xs i ≡ None → length xs ≤ i
length-none [] i is = omega arith
length-none (x ∷ xs) zero is = cc
length-none (x ∷ xs) (suc i) is = omega (arith, length-none xs i is)

-- what a slice of a whole `Vec` wrote
pub written : {X : Type 0} (n : ℕ) (xs ys : List X) → n ≡ length ys → take n (ys ++ xs) ≡ ys
written n xs ys is = ap (λ k. take k (ys ++ xs)) is ∙ take-append_seam ys xs

pub map_twice : {X Y Z : Type 0} (f : Y → Z) (g : X → Y) (o : Option X) → option_map (λ x. f (g x)) o ≡ option_map f (option_map g o)
map_twice f g None = refl
map_twice f g (Some x) = refl

-- what a look-up by its place gives
pub got : {A X : Type 0} (f : A → X) (xs : List X) (i : ℕ) (r : Option A) → is_some r ≡ nat_lt i (length xs) →
    IfSome r (λ x. f x ≡ get_or xs i (f x)) → option_map f r ≡ slice_get xs i
got f xs i None there is =
    let past : length xs ≤ i = grind (arith, nat_tests) in
    sym (none_past xs i past)
  where
    none_past : {X : Type 0} (xs : List X) (i : ℕ) → length xs ≤ i → slice_get xs i ≡ None
    none_past [] i past = refl
    none_past (x ∷ xs) zero past = absurd (omega arith)
    none_past (x ∷ xs) (suc i) past = none_past xs i (omega arith)
got f xs i (Some x) there is =
    let lt : i < length xs = grind (arith, nat_tests) in
    ap Some is ∙ sym (slice_get-get_or xs i (f x) lt)
