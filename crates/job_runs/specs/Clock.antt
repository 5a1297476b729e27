-- That a clock never goes back, in what happened.
use Rattle.std.specs.Prelude.{◌≤◌, ℕ, List, [], ◌∷◌}
use Rattle.serve.specs.SocketEvents.{SocketEvent, moment_after}
use Rattle.serve.specs.Happenings.{MarkedHappening, moment_then}

-- whenever it is read it shows no less than it showed last; before all this it showed m
abbrev pub NeverFalls : ℕ → List SocketEvent → Type 0
NeverFalls m [] = Unit {0}
NeverFalls m (s ∷ h) = (m ≤ moment_after m s) × NeverFalls (moment_after m s) h

abbrev pub NeverBack : ℕ → List MarkedHappening → Type 0
NeverBack m [] = Unit {0}
NeverBack m (x ∷ h) = (m ≤ moment_then m x.0) × NeverBack (moment_then m x.0) h
