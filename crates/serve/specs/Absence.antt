-- When a server was away, and has not read all that came meanwhile.
use Rattle.std.specs.Prelude.{◌<◌, ◌-◌, ℕ}
use Rattle.serve.specs.declared.absence.Absence.{Absence}

-- fewer than ten seconds have passed since
abbrev pub IsCatchingUp : ℕ → Absence → Type 0
IsCatchingUp m absence = m - absence.ended < 10000
