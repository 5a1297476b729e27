-- Numbers of jobs, as jobs come, start and end.
use Rattle.std.proofs.Common.{◌≡◌, ◌≢◌, ℕ, zero, suc, ◌<◌, ◌≤◌, Bool, true, false, List, [], ◌∷◌, ◌++◌, length, drop, Some, None, refl, sym, subst, arith}
use Rattle.std.specs.List.{AllByRecursion}
use Rattle.std.specs.Map.{keys_of, lookup, remove_entry}
use Rattle.std.proofs.lemmas.Bool.{eqb-true, eqb-false}
use Rattle.job_queue.specs.Jobs.{same_number}
use Rattle.job_queue.specs.Order.{AreRelated, AreRising, IsNone}

-- ---- all of a list

module _ {A : Type 0} where
  pub all-append : (P : A → Type 0) (xs ys : List A) → AllByRecursion P xs → AllByRecursion P ys → AllByRecursion P (xs ++ ys)
  all-append P [] ys h k = k
  all-append P (x ∷ xs) ys h k = (h.0, all-append P xs ys h.1 k)

  pub all-weaker : (P Q : A → Type 0) → ((x : A) → P x → Q x) → (xs : List A) → AllByRecursion P xs → AllByRecursion Q xs
  all-weaker P Q f [] h = tt
  all-weaker P Q f (x ∷ xs) h = (f x h.0, all-weaker P Q f xs h.1)

  pub all-drop : (P : A → Type 0) (k : ℕ) (xs : List A) → AllByRecursion P xs → AllByRecursion P (drop k xs)
  all-drop P zero xs h = h
  all-drop P (suc k) [] h = tt
  all-drop P (suc k) (x ∷ xs) h = all-drop P k xs h.1

  pub related-append : (R : A → A → Type 0) (xs ys : List A) → AreRelated R xs → AreRelated R ys →
      AllByRecursion (λ x. AllByRecursion (R x) ys) xs → AreRelated R (xs ++ ys)
  related-append R [] ys h k m = k
  related-append R (x ∷ xs) ys h k m = (all-append (R x) xs ys h.0 m.0, related-append R xs ys h.1 k m.1)

  pub related-back : (R : A → A → Type 0) (xs ys : List A) → AreRelated R (xs ++ ys) → AreRelated R ys
  related-back R [] ys h = h
  related-back R (x ∷ xs) ys h = related-back R xs ys h.1

  pub related-drop : (R : A → A → Type 0) (k : ℕ) (xs : List A) → AreRelated R xs → AreRelated R (drop k xs)
  related-drop R zero xs h = h
  related-drop R (suc k) [] h = tt
  related-drop R (suc k) (x ∷ xs) h = related-drop R k xs h.1

-- ---- numbers of entries, without the first of a number

module _ {A : Type 0} where
  pub all-without : (P : ℕ → Type 0) (t : ℕ → Bool) (es : List (ℕ × A)) (ys : List ℕ) → AllByRecursion P (keys_of es ++ ys) →
      AllByRecursion P (keys_of (remove_entry t es) ++ ys)
  all-without P t [] ys h = h
  all-without P t (e ∷ es) ys h = go (t e.0) refl (all-without P t es ys h.1) where
    go : (b : Bool) → t e.0 ≡ b → AllByRecursion P (keys_of (remove_entry t es) ++ ys) →
        AllByRecursion P (keys_of (remove_entry t (e ∷ es)) ++ ys)
    go true is later = rw is h.1
    go false is later = rw is (h.0, later)

  pub related-without : (R : ℕ → ℕ → Type 0) (t : ℕ → Bool) (es : List (ℕ × A)) (ys : List ℕ) → AreRelated R (keys_of es ++ ys) →
      AreRelated R (keys_of (remove_entry t es) ++ ys)
  related-without R t [] ys h = h
  related-without R t (e ∷ es) ys h = go (t e.0) refl (related-without R t es ys h.1) where
    go : (b : Bool) → t e.0 ≡ b → AreRelated R (keys_of (remove_entry t es) ++ ys) → AreRelated R (keys_of (remove_entry t (e ∷ es)) ++ ys)
    go true is later = rw is h.1
    go false is later = rw is (all-without (R e.0) t es ys h.0, later)

  -- what holds of all numbers holds of one that is found
  pub found-among : (P : ℕ → Type 0) (n : ℕ) (x : A) (es : List (ℕ × A)) (ys : List ℕ) → lookup (same_number n) es ≡ Some x →
      AllByRecursion P (keys_of es ++ ys) → P n
  found-among P n x [] ys is h = absurd (let no : None ≡ Some x = is in cc)
  found-among P n x (e ∷ es) ys is h = go (same_number n e.0) refl (λ later. found-among P n x es ys later h.1) where
    go : (b : Bool) → same_number n e.0 ≡ b → (lookup (same_number n) es ≡ Some x → P n) → P n
    go true here later = subst P (sym (eqb-true n e.0 here)) h.0
    go false here later = later (rw here at is)

  -- of numbers in rising order none is left of one that is taken out
  pub none-left : (n : ℕ) (x : A) (es : List (ℕ × A)) (ys : List ℕ) → lookup (same_number n) es ≡ Some x → AreRising (keys_of es ++ ys) →
      IsNone (keys_of (remove_entry (same_number n) es) ++ ys) n
  none-left n x [] ys is h = absurd (let no : None ≡ Some x = is in cc)
  none-left n x (e ∷ es) ys is h = go (same_number n e.0) refl (λ later. none-left n x es ys later h.1) where
    go : (b : Bool) → same_number n e.0 ≡ b → (lookup (same_number n) es ≡ Some x →
        IsNone (keys_of (remove_entry (same_number n) es) ++ ys) n) → IsNone (keys_of (remove_entry (same_number n) (e ∷ es)) ++ ys) n
    go true here later =
        let same : n ≡ e.0 = eqb-true n e.0 here in
        rw here (all-weaker (λ m. e.0 < m) (λ m. m ≢ n) (λ m above is. omega arith) (keys_of es ++ ys) h.0)
    go false here later =
        let other : n ≢ e.0 = eqb-false n e.0 here in
        rw here (λ is. other (sym is), later (rw here at is))

  pub length-without : (t : ℕ → Bool) (es : List (ℕ × A)) → length (remove_entry t es) ≤ length es
  length-without t [] = omega arith
  length-without t (e ∷ es) = go (t e.0) refl (length-without t es) where
    go : (b : Bool) → t e.0 ≡ b → length (remove_entry t es) ≤ length es → length (remove_entry t (e ∷ es)) ≤ length (e ∷ es)
    go true is later = rw is (omega arith)
    go false is later = rw is (omega arith)
