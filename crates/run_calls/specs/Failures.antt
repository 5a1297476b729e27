-- Counts of calls that failed.
use Rattle.std.specs.Prelude.{◌≡◌, ◌≤◌, ◌<◌, ◌+◌, ℕ, min, ◌⊎◌, Result, Ok, Err}

abbrev pub most_failures : ℕ
most_failures = 18446744073709551615

-- one more failure
abbrev pub risen : ℕ → ℕ
risen n = min (n + 1) most_failures

-- the count rises by one where the call failed, and stays where it did not
abbrev pub Counts : {A E : Type 0} → Result A E → ℕ → ℕ → Type 0
Counts (Ok x) old new = new ≡ old
Counts (Err e) old new = new ≡ risen old

-- a call failed. A failure at the highest count is a rise, too
abbrev pub Rises : ℕ → ℕ → Type 0
Rises old new = (old < new) ⊎ (most_failures ≤ new)
