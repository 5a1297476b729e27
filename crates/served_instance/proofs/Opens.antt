-- The open connections by themselves: what is done to the first of a number.
use Rattle.std.proofs.Common.{◌≡◌, refl, ap}
use Rattle.std.specs.Prelude.{ℕ, ◌==◌, if◌then◌else◌, Bool, true, false, List, [], ◌∷◌, map, Option, Some, None}
use Rattle.conn_core.specs.Past.{Past}
use Rattle.served_instance.specs.Connections.{LoneConnection, open_ones, open_at, at_open, with_closed, at_all_open}

abbrev pub first_past : ℕ → List LoneConnection → Option Past
first_past c [] = None
first_past c (k ∷ ks) = if k.number == c then Some k.past else first_past c ks

abbrev pub changed_at : ℕ → (Past → Past) → List LoneConnection → List LoneConnection
changed_at c step [] = []
changed_at c step (k ∷ ks) = if k.number == c then record k { past = step k.past } ∷ ks else k ∷ changed_at c step ks

abbrev pub without_at : ℕ → List LoneConnection → List LoneConnection
without_at c [] = []
without_at c (k ∷ ks) = if k.number == c then ks else k ∷ without_at c ks

abbrev pub stepped_by : (Past → Past) → LoneConnection → LoneConnection
stepped_by step k = record k { past = step k.past }

abbrev one : ℕ → Past → Bool → LoneConnection
one n p b = record { number = n; past = p; is_open = b }

-- ---- the past of one

past_at : (c n : ℕ) (p : Past) (b : Bool) (ks : List LoneConnection) → open_at c ks ≡ first_past c (open_ones ks) →
    open_at c (one n p b ∷ ks) ≡ first_past c (open_ones (one n p b ∷ ks))
past_at c n p true ks h = ap (λ (r : Option Past). if n == c then Some p else r) h
past_at c n p false ks h = h

pub open_at_is : (c : ℕ) (ks : List LoneConnection) → open_at c ks ≡ first_past c (open_ones ks)
open_at_is c [] = refl
open_at_is c (k ∷ ks) = past_at c k.number k.past k.is_open ks (open_at_is c ks)

-- ---- a step of one

changed_by : (c : ℕ) (step : Past → Past) (n : ℕ) (p : Past) (m : Bool) (ks : List LoneConnection) →
    open_ones (at_open c step ks) ≡ changed_at c step (open_ones ks) →
    open_ones (if m then one n (step p) true ∷ ks else one n p true ∷ at_open c step ks)
    ≡ (if m then one n (step p) true ∷ open_ones ks else one n p true ∷ changed_at c step (open_ones ks))
changed_by c step n p true ks h = refl
changed_by c step n p false ks h = ap (λ (r : List LoneConnection). one n p true ∷ r) h

changed_more : (c : ℕ) (step : Past → Past) (n : ℕ) (p : Past) (b : Bool) (ks : List LoneConnection) →
    open_ones (at_open c step ks) ≡ changed_at c step (open_ones ks) →
    open_ones (at_open c step (one n p b ∷ ks)) ≡ changed_at c step (open_ones (one n p b ∷ ks))
changed_more c step n p true ks h = changed_by c step n p (n == c) ks h
changed_more c step n p false ks h = h

pub at_open_is : (c : ℕ) (step : Past → Past) (ks : List LoneConnection) → open_ones (at_open c step ks) ≡ changed_at c step (open_ones ks)
at_open_is c step [] = refl
at_open_is c step (k ∷ ks) = changed_more c step k.number k.past k.is_open ks (at_open_is c step ks)

-- ---- the end of one

closed_by : (c n : ℕ) (p : Past) (m : Bool) (ks : List LoneConnection) → open_ones (with_closed c ks) ≡ without_at c (open_ones ks) →
    open_ones (if m then one n p false ∷ ks else one n p true ∷ with_closed c ks)
    ≡ (if m then open_ones ks else one n p true ∷ without_at c (open_ones ks))
closed_by c n p true ks h = refl
closed_by c n p false ks h = ap (λ (r : List LoneConnection). one n p true ∷ r) h

closed_more : (c n : ℕ) (p : Past) (b : Bool) (ks : List LoneConnection) → open_ones (with_closed c ks) ≡ without_at c (open_ones ks) →
    open_ones (with_closed c (one n p b ∷ ks)) ≡ without_at c (open_ones (one n p b ∷ ks))
closed_more c n p true ks h = closed_by c n p (n == c) ks h
closed_more c n p false ks h = h

pub closed_at_is : (c : ℕ) (ks : List LoneConnection) → open_ones (with_closed c ks) ≡ without_at c (open_ones ks)
closed_at_is c [] = refl
closed_at_is c (k ∷ ks) = closed_more c k.number k.past k.is_open ks (closed_at_is c ks)

-- ---- a step of each

all_more : (step : Past → Past) (n : ℕ) (p : Past) (b : Bool) (ks : List LoneConnection) →
    open_ones (at_all_open step ks) ≡ map (stepped_by step) (open_ones ks) →
    open_ones (at_all_open step (one n p b ∷ ks)) ≡ map (stepped_by step) (open_ones (one n p b ∷ ks))
all_more step n p true ks h = ap (λ (r : List LoneConnection). one n (step p) true ∷ r) h
all_more step n p false ks h = h

pub at_all_open_is : (step : Past → Past) (ks : List LoneConnection) →
    open_ones (at_all_open step ks) ≡ map (stepped_by step) (open_ones ks)
at_all_open_is step [] = refl
at_all_open_is step (k ∷ ks) = all_more step k.number k.past k.is_open ks (at_all_open_is step ks)
