-- Lists of which each element is related to each later one.
use Rattle.std.proofs.Common.{◌≡◌, ◌⊎◌, inl, inr, List, [], ◌∷◌, ◌++◌, map, arith}
use Rattle.std.specs.List.{AllPairs, Contains}
use Rattle.std.proofs.lemmas.List.Elements.{Contains-append_cases, Contains-get_or}
use Rattle.std.proofs.lemmas.List.Kept.{AllPairs-cons}
use Rattle.actions.proofs.Kept.{in_none, first_in, later_in, in_cases}

abbrev pub Pairs : {X : Type 0} → (X → X → Type 0) → List X → Type 0
Pairs R [] = Unit {0}
Pairs {X = X} R (x ∷ xs) = ((y : X) → Contains xs y → R x y) × Pairs R xs

pub pairs_all : {X : Type 0} (R : X → X → Type 0) (xs : List X) → Pairs R xs → AllPairs R xs
pairs_all R [] h = λ i j d less short. absurd (omega arith)
pairs_all R (x ∷ xs) h = AllPairs-cons R x xs (λ k d less. h.0 _ (Contains-get_or xs k d less)) (pairs_all R xs h.1)

pub pairs_joined : {X : Type 0} (R : X → X → Type 0) (xs ys : List X) → Pairs R xs → Pairs R ys →
    ((x y : X) → Contains xs x → Contains ys y → R x y) → Pairs R (xs ++ ys)
pairs_joined R [] ys h g cross = g
pairs_joined {X = X} R (x ∷ xs) ys h g cross =
    (λ y c. go y (Contains-append_cases xs ys y c), pairs_joined R xs ys h.1 g (λ a b ca cb. cross a b (later_in x xs a ca) cb)) where
      go : (y : X) → Contains xs y ⊎ Contains ys y → R x y
      go y (inl c) = h.0 y c
      go y (inr c) = cross x y (first_in x xs) c

pub in_map : {X Y : Type 0} (f : X → Y) (xs : List X) (y : Y) → Contains (map f xs) y → (x : X) × Contains xs x × (f x ≡ y)
in_map f [] y c = absurd (in_none y c)
in_map {X = X} f (x ∷ xs) y c = go (in_cases (f x) (map f xs) y c) (in_map f xs y) where
  go : (f x ≡ y) ⊎ Contains (map f xs) y → (Contains (map f xs) y → (z : X) × Contains xs z × (f z ≡ y)) →
      (z : X) × Contains (x ∷ xs) z × (f z ≡ y)
  go (inl is) later = (x, first_in x xs, is)
  go (inr c) later = let found = later c in (found.0, later_in x xs found.0 found.1, found.2)

pub map_in : {X Y : Type 0} (f : X → Y) (xs : List X) (x : X) → Contains xs x → Contains (map f xs) (f x)
map_in f [] x c = absurd (in_none x c)
map_in f (y ∷ ys) x c = go (in_cases y ys x c) (map_in f ys x) where
  go : (y ≡ x) ⊎ Contains ys x → (Contains ys x → Contains (map f ys) (f x)) → Contains (f y ∷ map f ys) (f x)
  go (inl is) later = rw (← is) (first_in (f y) (map f ys))
  go (inr c) later = later_in (f y) (map f ys) (f x) (later c)

pub pairs_map : {X Y : Type 0} (S : X → X → Type 0) (R : Y → Y → Type 0) (f : X → Y) → ((a b : X) → S a b → R (f a) (f b)) → (xs : List X) →
    Pairs S xs → Pairs R (map f xs)
pairs_map S R f leads [] h = tt
pairs_map S R f leads (x ∷ xs) h = (
  λ y c. (let found = in_map f xs y c in rw (← found.2) (leads x found.0 (h.0 found.0 found.1))),
  pairs_map S R f leads xs h.1,
)

pub pairs_unmap : {X Y : Type 0} (R : Y → Y → Type 0) (f : X → Y) (xs : List X) → Pairs R (map f xs) → Pairs (λ a b. R (f a) (f b)) xs
pairs_unmap R f [] h = tt
pairs_unmap R f (x ∷ xs) h = (λ y c. h.0 (f y) (map_in f xs y c), pairs_unmap R f xs h.1)
