-- The shortest form of a number: what it is, and that it is the number's.
use Rattle.std.proofs.Common.{◌≡◌, ℕ, zero, suc, ◌+◌, ◌-◌, ◌*◌, ◌/◌, ◌%◌, ◌^◌, ◌<◌, ◌≤◌, true, false, cond, ltb, List, [], ◌∷◌, length, refl, ap, subst, arith, inl, inr}
use Rattle.std.proofs.Math.Nat.{pow-suc}
use Rattle.std.proofs.lemmas.Bool.{cases_lt, lt-ltb, le-ltb}
use Rattle.numerals.specs.Groups.{AreGroups, groups_in, groups}

-- ---- any groups

pub some_groups : (bytes : List ℕ) (n : ℕ) → AreGroups bytes n → 0 < length bytes
some_groups [] n h = absurd h
some_groups (b ∷ bs) n h = omega arith

pub more_groups : (b : ℕ) (front : List ℕ) (high : ℕ) → 128 ≤ b → AreGroups front high → AreGroups (b ∷ front) (128 * high + (b - 128))
more_groups b [] high ge h = absurd h
more_groups b (c ∷ cs) high ge h = (ge, high, refl, h)

pub one_number : (bytes : List ℕ) (m n : ℕ) → AreGroups bytes m → AreGroups bytes n → m ≡ n
one_number [] m n g h = absurd g
one_number (b ∷ []) m n g h = let p = g.1 in let q = h.1 in omega arith
one_number (b ∷ c ∷ bs) m n g h =
    let high = one_number (c ∷ bs) g.1 h.1 g.3 h.3 in
    let p = g.2 in
    let q = h.2 in
    omega arith

-- ---- the shortest

-- more steps than the number says change nothing
groups_more : (n j k : ℕ) → n ≤ j → n ≤ k → groups_in j n ≡ groups_in k n
unfolding groups_in
groups_more n zero zero p q = refl
groups_more n zero (suc k) p q = let test : ltb n 128 ≡ true = lt-ltb n 128 (omega arith) in rw test refl
groups_more n (suc j) zero p q = let test : ltb n 128 ≡ true = lt-ltb n 128 (omega arith) in rw test refl
groups_more n (suc j) (suc k) p q = elim (cases_lt n 128) [
  | inl lt ↦ let test : ltb n 128 ≡ true = lt-ltb n 128 lt in rw test refl
  | inr ge ↦ ap (λ (x : List ℕ). cond (ltb n 128) (n ∷ []) ((n % 128 + 128) ∷ x)) (groups_more (n / 128) j k (omega arith) (omega arith))
]

pub groups_small : (n : ℕ) → n < 128 → groups n ≡ n ∷ []
unfolding groups groups_in
groups_small zero lt = refl
groups_small (suc n) lt = let test : ltb (suc n) 128 ≡ true = lt-ltb (suc n) 128 lt in rw test refl

pub groups_large : (n : ℕ) → 128 ≤ n → groups n ≡ (n % 128 + 128) ∷ groups (n / 128)
unfolding groups groups_in
groups_large zero ge = absurd (omega arith)
groups_large (suc n) ge = let test : ltb (suc n) 128 ≡ false = le-ltb (suc n) 128 ge in
    rw test (ap (λ (x : List ℕ). (suc n % 128 + 128) ∷ x) (groups_more (suc n / 128) n (suc n / 128) (omega arith) (omega arith)))

are_in : (k n : ℕ) → n ≤ k → AreGroups (groups_in k n) n
unfolding groups_in
are_in zero n le = (omega arith, refl)
are_in (suc k) n le = elim (cases_lt n 128) [
  | inl lt ↦ let test : ltb n 128 ≡ true = lt-ltb n 128 lt in rw test (lt, refl)
  | inr ge ↦
      let test : ltb n 128 ≡ false = le-ltb n 128 ge in
      let same : 128 * (n / 128) + (n % 128 + 128 - 128) ≡ n = omega arith in
      let both = more_groups (n % 128 + 128) (groups_in k (n / 128)) (n / 128) (omega arith) (are_in k (n / 128) (omega arith)) in
      rw test (subst (AreGroups ((n % 128 + 128) ∷ groups_in k (n / 128))) same both)
]

pub groups_are : (n : ℕ) → AreGroups (groups n) n
unfolding groups
groups_are n = are_in n n (omega arith)

pub groups_few : (count n : ℕ) → 0 < count → n < 128 ^ count → length (groups n) ≤ count
groups_few zero n some lt = absurd (omega arith)
groups_few (suc zero) n some lt = rw (groups_small n lt) (omega arith)
groups_few (suc (suc k)) n some lt = elim (cases_lt n 128) [
  | inl small ↦ rw (groups_small n small) (omega arith)
  | inr large ↦
      let power = pow-suc 128 (suc k) in
      let fewer = groups_few (suc k) (n / 128) (omega arith) (omega arith) in
      rw (groups_large n large) (omega arith)
]
