-- A connection on which nothing is sent.
use Rattle.std.specs.Prelude.{List, Option}
use Rattle.std.specs.List.{AllByRecursion}
use Rattle.wires.specs.Wires.{WireEvent, Adds, came, sent, failed, shut}

-- it comes from the client, or from the system
abbrev pub IsHeard : WireEvent → Type 0
IsHeard (came bytes) = Unit {0}
IsHeard failed = Unit {0}
IsHeard (sent bytes) = ⊥
IsHeard shut = ⊥

-- bytes came or a call failed, once or more often, or nothing happened: nothing was sent on it
abbrev pub OnlyCame : {W : Type 0} → (W → Option (List WireEvent)) → W → W → Type 0
OnlyCame happened old new =
    (more : List WireEvent) × AllByRecursion IsHeard more × Adds (happened old) (happened new) more
