-- What a filter keeps of a list.
use Rattle.std.proofs.Common.{◌≡◌, ◌⊎◌, inl, inr, Bool, true, false, cond, List, [], ◌∷◌, filter, arith, refl, sym, ap, ◌∙◌}
use Rattle.std.specs.List.{Contains}
use Rattle.std.proofs.lemmas.List.Elements.{Contains-append_right, Contains-append_left, Contains-append_cases, Contains-push, Contains-push_cases}

pub in_none : {X : Type 0} (x : X) → Contains [] x → ⊥
in_none x c = absurd (omega (arith, c.1))

pub first_in : {X : Type 0} (x : X) (xs : List X) → Contains (x ∷ xs) x
first_in x xs = Contains-append_left (x ∷ []) xs x (Contains-push [] x)

pub later_in : {X : Type 0} (y : X) (xs : List X) (x : X) → Contains xs x → Contains (y ∷ xs) x
later_in y xs x c = Contains-append_right (y ∷ []) xs x c

pub in_cases : {X : Type 0} (y : X) (xs : List X) (x : X) → Contains (y ∷ xs) x → (y ≡ x) ⊎ Contains xs x
in_cases {X = X} y xs x c = go (Contains-append_cases (y ∷ []) xs x c) where
  single : Contains [] x ⊎ (y ≡ x) → (y ≡ x) ⊎ Contains xs x
  single (inl h) = absurd (in_none x h)
  single (inr h) = inl h

  go : Contains (y ∷ []) x ⊎ Contains xs x → (y ≡ x) ⊎ Contains xs x
  go (inl h) = single (Contains-push_cases [] y x h)
  go (inr h) = inr h

pub filter_gives : {X : Type 0} (p : X → Bool) (xs : List X) (x : X) → Contains (filter p xs) x → Contains xs x × (p x ≡ true)
filter_gives p [] x c = absurd (in_none x c)
filter_gives {X = X} p (y ∷ ys) x c = go (p y) refl c (filter_gives p ys x) where
  first : p y ≡ true → (y ≡ x) ⊎ Contains (filter p ys) x → (Contains (filter p ys) x → Contains ys x × (p x ≡ true)) →
      Contains (y ∷ ys) x × (p x ≡ true)
  first e (inl is) later = (rw (← is) (first_in y ys), ap p (sym is) ∙ e)
  first e (inr h) later = (later_in y ys x (later h).0, (later h).1)

  go : (b : Bool) → p y ≡ b → Contains (cond b (y ∷ filter p ys) (filter p ys)) x →
      (Contains (filter p ys) x → Contains ys x × (p x ≡ true)) → Contains (y ∷ ys) x × (p x ≡ true)
  go true e c later = first e (in_cases y (filter p ys) x c) later
  go false e c later = (later_in y ys x (later c).0, (later c).1)

pub filter_has : {X : Type 0} (p : X → Bool) (xs : List X) (x : X) → Contains xs x → p x ≡ true → Contains (filter p xs) x
filter_has p [] x c e = c
filter_has {X = X} p (y ∷ ys) x c e = go (p y) refl (in_cases y ys x c) (λ h. filter_has p ys x h e) where
  go : (b : Bool) → p y ≡ b → (y ≡ x) ⊎ Contains ys x → (Contains ys x → Contains (filter p ys) x) →
      Contains (cond b (y ∷ filter p ys) (filter p ys)) x
  go true is (inl h) later = rw (← h) (first_in y (filter p ys))
  go true is (inr h) later = later_in y (filter p ys) x (later h)
  go false is (inl h) later = let no : p x ≡ false = ap p (sym h) ∙ is in cc
  go false is (inr h) later = later h
