-- Questions to shells, which answer one after the other.
use Rattle.std.specs.Prelude.{◌≡◌, ◌≤◌, ◌+◌, ◌-◌, ◌^◌, ℕ, min, Result, Ok, Err}
use Rattle.run_shells.specs.declared.questions.Questions.{Questions}

-- counts end here
abbrev pub most : ℕ
most = 2 ^ 64 - 1

-- how many are answered once these answers came, one a byte
abbrev pub answered_by : {E : Type 0} → ℕ → Result ℕ E → ℕ
answered_by answered (Ok count) = answered + min count (most - answered)
answered_by answered (Err e) = answered

-- none was asked since, and no answer was lost
pub record Listens (old new : Questions) : Type 0 where
  pub asked : new.asked ≡ old.asked
  pub answered : old.answered ≤ new.answered
