-- How sessions are ended.
use Rattle.std.specs.Prelude.{◌≡◌, ◌≤◌, ℕ}
use Rattle.system.specs.declared.sessions.Progress.{Progress}
use Rattle.system.specs.declared.sessions.Progress.TheVariants.{Alive, Told, Asked, Ended}

-- the question was one to the shell of this number, which has answered so many
abbrev pub WasAnswered : Progress → ℕ → ℕ → Type 0
WasAnswered (Asked question searches) number answered =
    (question.asked ≡ number) × (question.place ≤ answered)
WasAnswered Alive number answered = ⊥
WasAnswered (Told moment) number answered = ⊥
WasAnswered Ended number answered = ⊥
