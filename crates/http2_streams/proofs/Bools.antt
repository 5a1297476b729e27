-- Tests joined.
use Rattle.std.proofs.Common.{◌≡◌, ℕ, refl, arith}
use Rattle.std.specs.Prelude.{Bool, true, false, not, ◌&&◌, ◌||◌, ◌==◌}
use Rattle.std.proofs.lemmas.Bool.Decides.{nat_tests}

pub eq_sym : (s t : ℕ) → (s == t) ≡ (t == s)
eq_sym s t = grind (arith, nat_tests)

pub or_false : (b : Bool) → (b || false) ≡ b
or_false true = refl
or_false false = refl

pub or_true : (b : Bool) → (b || true) ≡ true
or_true true = refl
or_true false = refl

pub and_true : (b : Bool) → (b && true) ≡ b
and_true true = refl
and_true false = refl

pub or-swap : (a b x : Bool) → ((a || x) || b) ≡ ((a || b) || x)
or-swap true b x = refl
or-swap false true true = refl
or-swap false false true = refl
or-swap false true false = refl
or-swap false false false = refl

pub or-assoc : (a b x : Bool) → (a || (b || x)) ≡ ((a || b) || x)
or-assoc true b x = refl
or-assoc false b x = refl

-- a live stream that one side ends
pub ended_alive : (r c e x : Bool) → (not r && not ((c || x) && e)) ≡ ((not r && not (c && e)) && not (x && e))
ended_alive true c e x = refl
ended_alive false true true x = refl
ended_alive false true false true = refl
ended_alive false true false false = refl
ended_alive false false true true = refl
ended_alive false false true false = refl
ended_alive false false false true = refl
ended_alive false false false false = refl

pub ended_alive' : (r c e x : Bool) → (not r && not (c && (e || x))) ≡ ((not r && not (c && e)) && not (x && c))
ended_alive' true c e x = refl
ended_alive' false true true true = refl
ended_alive' false true true false = refl
ended_alive' false true false true = refl
ended_alive' false true false false = refl
ended_alive' false false e true = refl
ended_alive' false false e false = refl

pub reset_alive : (r b x : Bool) → (not (r || x) && b) ≡ ((not r && b) && not x)
reset_alive true b x = refl
reset_alive false true true = refl
reset_alive false true false = refl
reset_alive false false true = refl
reset_alive false false false = refl

pub not_false : (b : Bool) → not b ≡ false → b ≡ true
not_false true h = refl
not_false false h = cc

pub not_true : (b : Bool) → not b ≡ true → b ≡ false
not_true true h = cc
not_true false h = refl

pub or_parts : (a b : Bool) → (a || b) ≡ false → (a ≡ false) × (b ≡ false)
or_parts true b h = cc
or_parts false b h = (refl, h)

pub and_false : (b : Bool) → (b && false) ≡ false
and_false true = refl
and_false false = refl
