-- The last bracket of a line.
use Rattle.std.proofs.Common.{◌≡◌, ◌≢◌, ◌≤◌, ◌<◌, ◌+◌, ◌-◌, ℕ, List, ap, sym, subst, not, false, length, drop, get_or, arith, ne_eqb, eq-eqb}
use Rattle.std.specs.List.{after_last, suffix_len}
use Rattle.std.proofs.lemmas.List.Sums.{suffix_len_is}
use Rattle.system.specs.Processes.{is_bracket}

pub after_last_bracket : (xs : List ℕ) (i : ℕ) → i < length xs → get_or xs i 0 ≡ 41
    → ((k : ℕ) → i + 1 ≤ k → k < length xs → get_or xs k 0 ≢ 41)
    → drop (i + 1) xs ≡ after_last is_bracket xs
after_last_bracket xs i inside here others = ap (λ n. drop n xs) (omega (arith, counted, inside))
  where
    at : get_or xs (i + 1 - 1) 0 ≡ 41
    at = subst (λ n. get_or xs n 0 ≡ 41) (omega arith) here

    counted : suffix_len (λ x. not (is_bracket x)) xs ≡ length xs - (i + 1)
    counted = suffix_len_is (λ x. not (is_bracket x)) xs (i + 1) 0 (omega (arith, inside))
        (λ k from below. ap not (ne_eqb (get_or xs k 0) 41 (others k from below)))
        (λ _. ap not (eq-eqb (get_or xs (i + 1 - 1) 0) 41 at))
