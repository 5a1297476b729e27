-- No answer is lost.
use Rattle.std.proofs.Common.{◌≤◌, ℕ, min, Result, Ok, Err, arith}
use Rattle.run_shells.specs.Asking.{answered_by}

pub answered_more : {E : Type 0} (answered : ℕ) (heard : Result ℕ E)
    → answered ≤ answered_by answered heard
answered_more answered (Ok count) = omega arith
answered_more answered (Err e) = omega arith
