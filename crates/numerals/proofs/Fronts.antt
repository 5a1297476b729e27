-- A front of some bytes, and what follows it.
use Rattle.std.proofs.Common.{◌≡◌, ℕ, List, [], ◌++◌, length, take, refl, sym, ap, ◌∙◌, append_assoc}
use Rattle.std.proofs.lemmas.List.{append-nil, take_at}
use Rattle.numerals.specs.Groups.{BeginsWith}

pub record Fronts (P : List ℕ → Type 0) (bytes rest : List ℕ) : Type 0 where
  pub front : List ℕ
  pub holds : P front
  pub parts : bytes ≡ front ++ rest

pub begins_itself : (xs : List ℕ) → BeginsWith xs xs
begins_itself xs = ([], sym (append-nil xs))

pub begins_more : (xs ys zs : List ℕ) → BeginsWith ys xs → BeginsWith (ys ++ zs) xs
begins_more xs ys zs h = (h.0 ++ zs, ap (λ (v : List ℕ). v ++ zs) h.1 ∙ append_assoc xs h.0 zs)

pub begins_behind : (xs ys zs : List ℕ) → BeginsWith zs (xs ++ ys) → BeginsWith zs xs
begins_behind xs ys zs h = (ys ++ h.0, h.1 ∙ append_assoc xs ys h.0)

pub begins_back : (xs ys : List ℕ) → BeginsWith ys xs → take (length xs) ys ≡ xs
begins_back xs ys h = ap (take (length xs)) h.1 ∙ take_at xs h.0 (length xs) refl
