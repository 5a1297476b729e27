-- Texts that a pool counts.
use Rattle.std.proofs.Common.{◌≡◌, ℕ, ◌≤◌, Option, Some, None, Result, Ok, Err, sym, subst, arith}
use Rattle.std.specs.Prelude.{IfSome, IfOk}
use Rattle.rpc.specs.declared.refusal.Refusal.{Refusal}
use Rattle.instance_view.specs.declared.view.Seen.{Seen}
use Rattle.instance_view.specs.Shown.{holders_seen}
use Rattle.bytestream.specs.declared.reading.Source.{Source}

pub held_at : (o : Option Seen) (s : Seen) (P : Seen → ℕ → Type 0) → ((k : ℕ) → IfSome o (λ x. P x k)) → o ≡ Some s → (k : ℕ) → P s k
held_at (Some x) s P h e k = let same : x ≡ s = cc in subst (λ (y : Seen). P y k) same (h k)
held_at None s P h e k = absurd (none_some s e) where
  none_some : (s : Seen) → None ≡ Some s → ⊥
  none_some s e = cc

pub held_ok : (r : Result Source Refusal) (s : Seen) (P : Seen → ℕ → Type 0) → IfOk r (λ x. x.text ≡ s) → ((k : ℕ) → P s k) → (k : ℕ) →
    IfOk r (λ x. P x.text k)
held_ok (Ok x) s P e h k = subst (λ (y : Seen). P y k) (sym e) (h k)
held_ok (Err e) s P t h k = tt

pub held_more : (o : Option Seen) (a b : ℕ → ℕ) → ((k : ℕ) → IfSome o (λ s. holders_seen s k ≤ a k)) → ((k : ℕ) → a k ≤ b k) → (k : ℕ) →
    IfSome o (λ s. holders_seen s k ≤ b k)
held_more (Some x) a b h l k = let p : holders_seen x k ≤ a k = h k in let q : a k ≤ b k = l k in omega arith
held_more None a b h l k = tt
