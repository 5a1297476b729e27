-- A list and its first, and keys.
use Rattle.std.proofs.Common.{◌≡◌, ℕ, ◌≤◌, ◌<◌, ◌-◌, List, [], ◌∷◌, length, take, drop, get_or, nat_eq, Bool, true, false, refl, ap, sym, ◌∙◌, arith}
use Rattle.std.proofs.Math.Seq.{take-length}
use Rattle.std.specs.Prelude.{vec_len}
use Rattle.std.specs.Global.{Vec}
use Rattle.runner.proofs.Popped.{no_items}
use Rattle.run_calls.specs.declared.task.RunKey.{RunKey}

pub first_and_rest : {A : Type 0} (xs : List A) (x : A) → 1 ≤ length xs → x ≡ get_or xs 0 x → xs ≡ x ∷ take (length xs - 1) (drop 1 xs)
first_and_rest [] x le is = absurd (omega (arith, le))
first_and_rest (y ∷ ys) x le is =
    let n : length (y ∷ ys) - 1 ≡ length ys = omega arith in
    ap (λ z. z ∷ ys) (sym is) ∙ ap (λ zs. x ∷ zs) (sym (ap (λ k. take k ys) n ∙ take-length ys))

pub no_rest : {A : Type 0} (xs : List A) → length xs < 1 → xs ≡ []
no_rest [] lt = refl
no_rest (y ∷ ys) lt = absurd (omega (arith, lt))

abbrev key_of : ℕ → ℕ → RunKey
key_of i j = record { instance = i; job = j }

pub key_same : (a b : RunKey) → a.instance ≡ b.instance → a.job ≡ b.job → a ≡ b
key_same a b i j = ap (λ x. key_of x a.job) i ∙ ap (λ y. key_of b.instance y) j

pub some_piece : (v : Vec ℕ) (b : Bool) → b ≡ nat_eq (vec_len v) 0 → b ≡ false → v.items ≡ [] → ⊥
some_piece v b is so none = let e = ap length none in grind (arith, is, so, v.ok, e)

pub no_piece : (v : Vec ℕ) (b : Bool) → b ≡ nat_eq (vec_len v) 0 → b ≡ true → v.items ≡ []
no_piece v b is so = no_items v.items (grind (arith, is, so, v.ok))
