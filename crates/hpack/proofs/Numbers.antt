-- Integers: what is read is spelled so, and what is spelled so is read.
use Rattle.std.proofs.Common.{◌≡◌, ℕ, ◌+◌, ◌-◌, ◌*◌, ◌^◌, ◌<◌, ◌≤◌, true, false, cond, ltb, leb, List, [], ◌∷◌, ◌++◌, length, Ok, Err, refl, sym, ap, subst, arith, inl, inr}
use Rattle.std.proofs.lemmas.Bool.{ltb-true, ltb-false, lt-ltb, le-ltb, leb-false, lt-leb}
use Rattle.numerals.proofs.Groups.{more_groups}
use Rattle.hpack.specs.declared.error.HpackError.TheVariants.{Integer}
use Rattle.hpack.specs.Results.{◌>>=◌}
use Rattle.hpack.specs.Integer.{AreGroups, IsInteger, below_limit, groups_at, integer_at}
use Rattle.hpack.proofs.Tools.{bind_ok, chosen, passed, met, ok_is, Fronts}

-- what a reader of groups took from the front
pub record Takes (left : ℕ) (bytes : List ℕ) (x : ℕ × List ℕ) : Type 0 where
  pub front : List ℕ
  pub groups : AreGroups front x.0
  pub short : length front ≤ left
  pub small : x.0 < 2 ^ 32
  pub parts : bytes ≡ front ++ x.1

pub groups_takes : (left : ℕ) (bytes : List ℕ) (x : ℕ × List ℕ) → 0 < left → groups_at left bytes ≡ Ok x → Takes left bytes x
unfolding groups_at
groups_takes left [] x pos e = absurd cc
groups_takes left (b ∷ bs) x pos e =
    elim (chosen (ltb b 128) (Ok (b, bs)) (cond (leb left 1) (Err Integer)
    (groups_at (left - 1) bs >>= λ high. below_limit (128 * high.0 + (b - 128)) high.1)) (Ok x) e) [
      | inl h ↦ let small = ltb-true b 128 h.0 in subst (λ y. Takes left (b ∷ bs) y) (ok_is (b, bs) x h.1)
          (record { front = b ∷ []; groups = (small, refl); short = omega arith; small = omega arith; parts = refl })
      | inr h ↦
          let big = ltb-false b 128 h.0 in
          let p = passed (leb left 1) Integer (groups_at (left - 1) bs >>= λ high. below_limit (128 * high.0 + (b - 128)) high.1) x h.1 in
          let more : 1 < left = leb-false left 1 p.0 in
          let q = bind_ok (groups_at (left - 1) bs) (λ high. below_limit (128 * high.0 + (b - 128)) high.1) x p.1 in
          let m = met (ltb (128 * q.0.0 + (b - 128)) (2 ^ 32)) Integer (Ok (128 * q.0.0 + (b - 128), q.0.1)) x q.2 in
          let t = groups_takes (left - 1) bs q.0 (omega arith) q.1 in
          subst (λ y. Takes left (b ∷ bs) y) (ok_is (128 * q.0.0 + (b - 128), q.0.1) x m.1)
          (record {
            front = b ∷ t.front;
            groups = more_groups b t.front q.0.0 big t.groups;
            short = (let l = t.short in omega arith);
            small = ltb-true (128 * q.0.0 + (b - 128)) (2 ^ 32) m.0;
            parts = ap (λ (y : List ℕ). b ∷ y) t.parts;
          })
    ]

pub groups_again : (left : ℕ) (front rest : List ℕ) (n : ℕ) → length front ≤ left → AreGroups front n → n < 2 ^ 32 →
    groups_at left (front ++ rest) ≡ Ok (n, rest)
unfolding groups_at
groups_again left [] rest n short h small = absurd h
groups_again left (b ∷ []) rest n short h small =
    let test : ltb b 128 ≡ true = lt-ltb b 128 h.0 in
    rw test (ap (λ (k : ℕ). Ok (k, rest)) (sym h.1))
groups_again left (b ∷ c ∷ cs) rest n short h small =
    let test : ltb b 128 ≡ false = le-ltb b 128 h.0 in
    let more : leb left 1 ≡ false = lt-leb left 1 (omega arith) in
    let high = h.1 in
    let is : n ≡ 128 * high + (b - 128) = h.2 in
    let tail = groups_again (left - 1) (c ∷ cs) rest high (omega arith) h.3 (omega arith) in
    let below : ltb (128 * high + (b - 128)) (2 ^ 32) ≡ true = lt-ltb (128 * high + (b - 128)) (2 ^ 32) (omega arith) in
    rw (test, more, tail, below) (ap (λ (k : ℕ). Ok (k, rest)) (sym is))

-- what is read behind a prefix is spelled with it
pub integer_takes : (flags full prefix : ℕ) (bytes : List ℕ) (x : ℕ × List ℕ) → integer_at full prefix bytes ≡ Ok x →
    Fronts (λ front. IsInteger flags full ((flags + prefix) ∷ front) x.0) bytes x.1
unfolding integer_at
integer_takes flags full prefix bytes x e =
    elim (chosen (ltb prefix full) (Ok (prefix, bytes))
    (cond (ltb full prefix) (Err Integer) (groups_at 5 bytes >>= λ beyond. below_limit (full + beyond.0) beyond.1)) (Ok x) e) [
      | inl h ↦ let small = ltb-true prefix full h.0 in
          subst (λ (y : ℕ × List ℕ). Fronts (λ front. IsInteger flags full ((flags + prefix) ∷ front) y.0) bytes y.1)
          (ok_is (prefix, bytes) x h.1) (record { front = []; holds = (refl, small); parts = refl })
      | inr h ↦
          let least = ltb-false prefix full h.0 in
          let p = passed (ltb full prefix) Integer (groups_at 5 bytes >>= λ beyond. below_limit (full + beyond.0) beyond.1) x h.1 in
          let most = ltb-false full prefix p.0 in
          let q = bind_ok (groups_at 5 bytes) (λ beyond. below_limit (full + beyond.0) beyond.1) x p.1 in
          let m = met (ltb (full + q.0.0) (2 ^ 32)) Integer (Ok (full + q.0.0, q.0.1)) x q.2 in
          let t = groups_takes 5 bytes q.0 (omega arith) q.1 in
          let same : flags + prefix ≡ flags + full = omega arith in
          subst (λ (y : ℕ × List ℕ). Fronts (λ front. IsInteger flags full ((flags + prefix) ∷ front) y.0) bytes y.1)
          (ok_is (full + q.0.0, q.0.1) x m.1)
          (record {
            front = t.front;
            holds = long flags full (flags + prefix) t.front q.0.0 same t.groups t.short
                (ltb-true (full + q.0.0) (2 ^ 32) m.0);
            parts = t.parts;
          })
    ]
  where
    long : (flags full first : ℕ) (front : List ℕ) (beyond : ℕ) → first ≡ flags + full → AreGroups front beyond → length front ≤ 5 →
        full + beyond < 2 ^ 32 → IsInteger flags full (first ∷ front) (full + beyond)
    long flags full first [] beyond is groups short small = absurd groups
    long flags full first (c ∷ cs) beyond is groups short small = (is, beyond, refl, groups, short, small)

-- what is spelled is read behind its prefix
pub record Prefixed (flags full : ℕ) (bytes rest : List ℕ) (n : ℕ) : Type 0 where
  pub prefix : ℕ
  pub more : List ℕ
  pub within : prefix ≤ full
  pub parts : bytes ≡ (flags + prefix) ∷ more
  pub read : integer_at full prefix (more ++ rest) ≡ Ok (n, rest)

pub integer_again : (flags full : ℕ) (bytes rest : List ℕ) (n : ℕ) → IsInteger flags full bytes n → Prefixed flags full bytes rest n
unfolding integer_at
integer_again flags full [] rest n h = absurd h
integer_again flags full (b ∷ []) rest n h =
    let test : ltb n full ≡ true = lt-ltb n full h.1 in
    record { prefix = n; more = []; within = (let lt = h.1 in omega arith); parts = ap (λ (k : ℕ). k ∷ []) h.0; read = rw test refl }
integer_again flags full (b ∷ c ∷ cs) rest n h =
    let beyond = h.1 in
    let is : n ≡ full + beyond = h.2 in
    let small : n < 2 ^ 32 = h.5 in
    let test : ltb full full ≡ false = le-ltb full full (omega arith) in
    let groups = groups_again 5 (c ∷ cs) rest beyond h.4 h.3 (omega arith) in
    let below : ltb (full + beyond) (2 ^ 32) ≡ true = lt-ltb (full + beyond) (2 ^ 32) (omega arith) in
    record {
      prefix = full;
      more = c ∷ cs;
      within = omega arith;
      parts = ap (λ (k : ℕ). k ∷ c ∷ cs) h.0;
      read =
          rw (test, groups, below) (ap (λ (k : ℕ). Ok (k, rest)) (sym is));
    }
