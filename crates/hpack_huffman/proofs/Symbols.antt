-- The symbol whose code begins a list of bits.
use Rattle.std.proofs.Common.{◌≡◌, ℕ, zero, suc, ◌+◌, ◌-◌, ◌<◌, ◌≤◌, Bool, true, false, List, ◌++◌, length, take, drop, replicate, Option, Some, None, if◌then◌else◌, refl, sym, ap, ◌∙◌, arith, inl, inr}
use Rattle.std.specs.Prelude.{nat_eq}
use Rattle.std.specs.List.{starts_with}
use Rattle.std.proofs.lemmas.Bool.{cases_eq, both_ways}
use Rattle.std.proofs.lemmas.List.{append_assoc, length-append, length-replicate, take_at, take-append-drop, replicate-append-replicate}
use lib.Pointwise.{bytes_decides}
use Rattle.hpack_huffman.specs.Code.{eos, code, code_length}
use Rattle.hpack_huffman.specs.Reading.{symbol_below, symbol_at}
use Rattle.hpack_huffman.proofs.Canonical.{length-code, one_symbol, prefix_free, code-eos}

begins_is : (bs front : List ℕ) → starts_with nat_eq bs front ≡ true → bs ≡ front ++ drop (length front) bs
begins_is bs front h =
    let same : front ≡ take (length front) bs = (bytes_decides front (take (length front) bs)).0 h in
    sym (take-append-drop (length front) bs) ∙ ap (λ (xs : List ℕ). xs ++ drop (length front) bs) (sym same)

begins_from : (bs front rest : List ℕ) → bs ≡ front ++ rest → starts_with nat_eq bs front ≡ true
begins_from bs front rest e =
    let same : front ≡ take (length front) bs = sym (take_at front rest (length front) refl) ∙ ap (take (length front)) (sym e) in
    (bytes_decides front (take (length front) bs)).1 same

below_found : (n s : ℕ) (bs rest : List ℕ) → s < n → n ≤ 257 → bs ≡ code s ++ rest → symbol_below n bs ≡ Some s
unfolding symbol_below
below_found zero s bs rest lt le e = absurd (omega arith)
below_found (suc n) s bs rest lt le e = go (starts_with nat_eq bs (code n)) refl
    (λ lower. below_found n s bs rest lower (omega arith) e) where
      go : (b : Bool) → starts_with nat_eq bs (code n) ≡ b → (s < n → symbol_below n bs ≡ Some s) →
          (if b then Some n else symbol_below n bs) ≡ Some s
      go true h lower = let same : n ≡ s = one_symbol n s (omega arith) (omega arith) (drop (length (code n)) bs) rest
          (sym (begins_is bs (code n) h) ∙ e) in ap (λ (k : ℕ). Some k) same
      go false h lower = elim (cases_eq s n) [
        | inl same ↦ absurd (both_ways (starts_with nat_eq bs (code n)) h
            (begins_from bs (code n) rest (e ∙ ap (λ (k : ℕ). code k ++ rest) same)))
        | inr other ↦ lower (omega arith)
      ]

below_is : (n s : ℕ) (bs : List ℕ) → symbol_below n bs ≡ Some s → (s < n) × (bs ≡ code s ++ drop (length (code s)) bs)
unfolding symbol_below
below_is zero s bs e = absurd cc
below_is (suc n) s bs e = go (starts_with nat_eq bs (code n)) refl e (λ h. below_is n s bs h) where
  go : (b : Bool) → starts_with nat_eq bs (code n) ≡ b → (if b then Some n else symbol_below n bs) ≡ Some s →
      (symbol_below n bs ≡ Some s → (s < n) × (bs ≡ code s ++ drop (length (code s)) bs)) →
      (s < suc n) × (bs ≡ code s ++ drop (length (code s)) bs)
  go true h e lower = let same : n ≡ s = cc in (omega arith, rw (← same) (begins_is bs (code n) h))
  go false h e lower = let found = lower e in (omega arith, found.1)

at_below : (bs : List ℕ) → symbol_at bs ≡ symbol_below 257 bs
unfolding symbol_at
at_below bs = refl

pub symbol_at_found : (s : ℕ) (bs rest : List ℕ) → s ≤ eos → bs ≡ code s ++ rest → symbol_at bs ≡ Some s
symbol_at_found s bs rest le e = at_below bs ∙ below_found 257 s bs rest (omega arith) (omega arith) e

pub symbol_at_is : (s : ℕ) (bs : List ℕ) → symbol_at bs ≡ Some s → (s ≤ eos) × (bs ≡ code s ++ drop (code_length s) bs)
symbol_at_is s bs e =
    let found = below_is 257 s bs (sym (at_below bs) ∙ e) in
    (omega arith, rw (← length-code s) found.1)

pub symbol_at_none : (bs : List ℕ) → ((s : ℕ) (rest : List ℕ) → s ≤ eos → bs ≡ code s ++ rest → ⊥) → symbol_at bs ≡ None
symbol_at_none bs none = go (symbol_at bs) refl where
  go : (o : Option ℕ) → symbol_at bs ≡ o → o ≡ None
  go None e = refl
  go (Some s) e = let found = symbol_at_is s bs e in absurd (none s (drop (code_length s) bs) found.0 found.1)

-- fewer ones than EOS has begin no code
pub ones_none : (n : ℕ) → n < 30 → symbol_at (replicate n 1) ≡ None
ones_none n lt = symbol_at_none (replicate n 1) (λ s rest le e.
    let whole : code 256 ≡ code s ++ (rest ++ replicate (30 - n) 1) =
    code-eos ∙ ap (λ (k : ℕ). replicate k 1) (let k : 30 ≡ n + (30 - n) = omega arith in k) ∙ sym (replicate-append-replicate n (30 - n) 1)
    ∙ ap (λ (xs : List ℕ). xs ++ replicate (30 - n) 1) e ∙ append_assoc (code s) rest (replicate (30 - n) 1) in
    let same : s ≡ 256 = prefix_free s 256 le (omega arith) (rest ++ replicate (30 - n) 1) whole in
    let long : length (code s) ≡ 30 = ap (λ (k : ℕ). length (code k)) same ∙ ap length code-eos ∙ length-replicate {A = ℕ} 30 1 in
    let short : n ≡ length (code s) + length rest = sym (length-replicate {A = ℕ} n 1) ∙ ap length e ∙ length-append (code s) rest in
    omega arith)
