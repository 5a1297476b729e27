-- For the code alone: no promise speaks of it.
use Rattle.std.specs.Prelude.{◌==◌, ℕ, if◌then◌else◌, List, [], ◌∷◌, Option, Some, None}
use Rattle.conn_core.specs.StandsFor.{ConnectionValue}
use Rattle.served_instance.specs.StandsFor.{ServedConnection}

abbrev pub connection_at : ℕ → List ServedConnection → Option ConnectionValue
connection_at c [] = None
connection_at c (v ∷ vs) = if v.number == c then Some v.connection else connection_at c vs
