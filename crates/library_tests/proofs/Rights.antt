-- What two rights leave to a third that stands beside them.
use Rattle.std.proofs.Common.{◌≡◌, ℕ, ◌<◌, arith}
use Rattle.std.proofs.lemmas.Bool.Decides.{nat_tests}
use Rattle.blob_pool.specs.Slots.{Slots, count_at}
use Rattle.blob_pool.specs.Moves.{Moves, no_holders, one_at}

one_own : (k : ℕ) → one_at k k ≡ 1
one_own k = grind (arith, nat_tests)

-- of three rights the first has gone
pub second_left : (o p q r s : Slots) (a b d : ℕ) → Moves o p no_holders (one_at a) → Moves p q no_holders (one_at b) →
    Moves q r no_holders (one_at d) → Moves r s (one_at a) no_holders → 0 < count_at s b
second_left o p q r s a b d first second again gone =
    omega (arith, one_own b, first.counts b, second.counts b, again.counts b, gone.counts b)

-- and then the second
pub last_left : (o p q r s t : Slots) (a b d : ℕ) → Moves o p no_holders (one_at a) → Moves p q no_holders (one_at b) →
    Moves q r no_holders (one_at d) → Moves r s (one_at a) no_holders → Moves s t (one_at b) no_holders → 0 < count_at t d
last_left o p q r s t a b d first second again gone gone' =
    omega (arith, one_own d, first.counts d, second.counts d, again.counts d, gone.counts d, gone'.counts d)
