-- Where the first entry of a number stands.
use Rattle.std.proofs.Common.{◌≡◌, ℕ, ◌+◌, ◌<◌, ◌≤◌, Bool, true, false, List, [], ◌∷◌, length, map, get_or, Option, Some, None, refl, sym, ap, ◌∙◌, add-one, arith}
use Rattle.std.specs.Prelude.{option_map}
use Rattle.std.specs.declared.alloc.Global.{Global}
use Rattle.std.specs.declared.rc.Rc.{Rc}
use Rattle.std.specs.declared.vec.Vec.{Vec}
use Rattle.std.proofs.lemmas.Map.Made.{lookup-map_values}
use Rattle.std.specs.List.{remove}
use Rattle.std.specs.Map.{lookup, remove_entry}
use Rattle.job_queue.specs.Jobs.{same_number}
use Rattle.job_queue.specs.Codes.{place_of, ended_shown, operation_shown}

module _ {A : Type 0} where
  pub lookup-past : (n : ℕ) (es : List (ℕ × A)) → length es ≤ place_of n es → lookup (same_number n) es ≡ None
  lookup-past n [] h = refl
  lookup-past n (e ∷ es) h = go (same_number n e.0) refl (λ past. lookup-past n es past) where
    go : (b : Bool) → same_number n e.0 ≡ b → (length es ≤ place_of n es → lookup (same_number n) es ≡ None) →
        lookup (same_number n) (e ∷ es) ≡ None
    go true is later = absurd (let past : length (e ∷ es) ≤ 0 = rw is at h in omega arith)
    go false is later = let past : length (e ∷ es) ≤ place_of n es + 1 = rw is at h in rw is (later (omega arith))

  pub remove_entry-past : (n : ℕ) (es : List (ℕ × A)) → length es ≤ place_of n es → remove_entry (same_number n) es ≡ es
  remove_entry-past n [] h = refl
  remove_entry-past n (e ∷ es) h = go (same_number n e.0) refl (λ past. remove_entry-past n es past) where
    go : (b : Bool) → same_number n e.0 ≡ b → (length es ≤ place_of n es → remove_entry (same_number n) es ≡ es) →
        remove_entry (same_number n) (e ∷ es) ≡ e ∷ es
    go true is later = absurd (let past : length (e ∷ es) ≤ 0 = rw is at h in omega arith)
    go false is later = let past : length (e ∷ es) ≤ place_of n es + 1 = rw is at h in
        rw is (ap (λ (rest : List (ℕ × A)). e ∷ rest) (later (omega arith)))

  pub lookup-there : (n : ℕ) (es : List (ℕ × A)) (d : ℕ × A) → place_of n es < length es →
      lookup (same_number n) es ≡ Some (get_or es (place_of n es) d).1
  lookup-there n [] d h = absurd (omega arith)
  lookup-there n (e ∷ es) d h = go (same_number n e.0) refl (λ there. lookup-there n es d there) where
    go : (b : Bool) → same_number n e.0 ≡ b → (place_of n es < length es →
        lookup (same_number n) es ≡ Some (get_or es (place_of n es) d).1) →
        lookup (same_number n) (e ∷ es) ≡ Some (get_or (e ∷ es) (place_of n (e ∷ es)) d).1
    go true is later = rw is refl
    go false is later = let there : place_of n es + 1 < length (e ∷ es) = rw is at h in rw (is, add-one) (later (omega arith))

  pub remove-there : (n : ℕ) (es : List (ℕ × A)) → place_of n es < length es → remove es (place_of n es) ≡ remove_entry (same_number n) es
  remove-there n [] h = absurd (omega arith)
  remove-there n (e ∷ es) h = go (same_number n e.0) refl (λ there. remove-there n es there) where
    go : (b : Bool) → same_number n e.0 ≡ b → (place_of n es < length es → remove es (place_of n es) ≡ remove_entry (same_number n) es) →
        remove (e ∷ es) (place_of n (e ∷ es)) ≡ remove_entry (same_number n) (e ∷ es)
    go true is later = rw is refl
    go false is later = let there : place_of n es + 1 < length (e ∷ es) = rw is at h in
        rw (is, add-one) (ap (λ (rest : List (ℕ × A)). e ∷ rest) (later (omega arith)))

-- ---- the Operations that are kept

pub ended_is : (n : ℕ) (es : List (ℕ × Rc (Vec ℕ Global) Global)) (found : Option (Rc (Vec ℕ Global) Global)) →
    found ≡ lookup (same_number n) es
    → option_map operation_shown found ≡ lookup (same_number n) (map ended_shown es)
ended_is n es found is = ap (option_map operation_shown) is ∙ sym (lookup-map_values operation_shown (same_number n) es)
