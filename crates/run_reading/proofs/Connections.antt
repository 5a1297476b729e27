-- The connections of an instance by itself.
use Rattle.std.specs.Prelude.{ℕ}
use Rattle.std.specs.List.{AllByRecursion}
use Rattle.served_instance.specs.Connections.{LoneConnection}
use Rattle.served_instance.specs.Lone.{LoneInstance}
use Rattle.client_reading.specs.Changes.{IsPast}

-- what passed on it is what changes made of the opening with this window
abbrev pub HasPast : ℕ → LoneConnection → Type 0
HasPast window k = IsPast window k.past

-- of an instance for which that window was chosen
abbrev pub ArePasts : LoneInstance → Type 0
ArePasts l = AllByRecursion (HasPast l.state.limits.window) l.connections
