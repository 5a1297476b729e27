-- The bytes of a head, by its length.
use Rattle.std.proofs.Common.{◌≡◌, ℕ, List, [], ◌∷◌, length, refl, ap, arith}

pub three_of : (xs : List ℕ) → length xs ≡ 3 → (a : ℕ) × (b : ℕ) × (c : ℕ) × (xs ≡ a ∷ b ∷ c ∷ [])
three_of [] e = absurd (omega arith)
three_of (a ∷ []) e = absurd (omega arith)
three_of (a ∷ b ∷ []) e = absurd (omega arith)
three_of (a ∷ b ∷ c ∷ []) e = (a, b, c, refl)
three_of (a ∷ b ∷ c ∷ d ∷ xs) e = absurd (omega arith)

pub four_of : (xs : List ℕ) → length xs ≡ 4 → (a : ℕ) × (b : ℕ) × (c : ℕ) × (d : ℕ) × (xs ≡ a ∷ b ∷ c ∷ d ∷ [])
four_of [] e = absurd (omega arith)
four_of (a ∷ xs) e = let rest = three_of xs (omega arith) in (a, rest.0, rest.1, rest.2, ap (λ (ys : List ℕ). a ∷ ys) rest.3)
