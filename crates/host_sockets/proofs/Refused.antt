-- What wrong bodies would have to show is false.
use Rattle.std.proofs.Common.{◌≡◌, inl, inr, sym, ap, ◌∙◌, ℕ, zero, Bool, true, false, List, [], ◌∷◌, ◌++◌, Option, Some, None, is_some, append-nil}
use Rattle.std.proofs.lemmas.Bool.{true≢false}
use Rattle.std.proofs.lemmas.List.{append_cancel_left}
use Rattle.wires.specs.Wires.{WireEvent, Adds, came, sent}

abbrev kept : Option (List WireEvent) → List WireEvent
kept None = []
kept (Some l) = l

pub exact : (h xs ys : List WireEvent) → Adds (Some h) (Some (h ++ xs)) ys → xs ≡ ys
exact h xs ys adds = elim adds [
  | inl lost ↦ absurd (true≢false (ap is_some lost))
  | inr all ↦ append_cancel_left h xs ys (ap kept all)
]

abbrev are_two : List WireEvent → Bool
are_two (sent (x ∷ y ∷ ys) ∷ es) = true
are_two es = false

abbrev is_zero : List WireEvent → Bool
is_zero (came (zero ∷ xs) ∷ es) = true
is_zero es = false

abbrev is_there : {A : Type 0} → List A → Bool
is_there [] = false
is_there (x ∷ xs) = true

pub half : Adds (Some []) (Some (sent (65 ∷ []) ∷ [])) (sent (65 ∷ 66 ∷ []) ∷ []) → ⊥
half adds = true≢false (ap are_two
    (sym (exact [] (sent (65 ∷ []) ∷ []) (sent (65 ∷ 66 ∷ []) ∷ []) adds)))

pub altered : Adds (Some []) (Some (came (1 ∷ []) ∷ [])) (came (0 ∷ []) ∷ []) → ⊥
altered adds = true≢false (ap is_zero
    (sym (exact [] (came (1 ∷ []) ∷ []) (came (0 ∷ []) ∷ []) adds)))

one_more : {A : Type 0} (h : List A) (x : A) → h ++ x ∷ [] ≡ h → ⊥
one_more h x is = true≢false (ap is_there
    (append_cancel_left h (x ∷ []) [] (is ∙ sym (append-nil h))))

pub told : (h : List WireEvent) (b : List ℕ) → h ++ sent b ∷ [] ≡ h → ⊥
told h b is = one_more h (sent b) is

abbrev got : {A : Type 0} → List A → Option (List A) → List A
got d (Some l) = l
got d None = d

pub elsewhere : (given : List (List WireEvent)) (w : List WireEvent)
    → Adds (Some given) (Some given) (w ∷ []) → ⊥
elsewhere given w adds = elim adds [
  | inl lost ↦ true≢false (ap is_some lost)
  | inr all ↦ one_more given w (sym (ap (got given) all))
]
