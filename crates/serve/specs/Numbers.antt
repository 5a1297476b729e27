-- Numbers of connections: under one number an instance's port has one connection at a time. To be
-- read from `NumbersAreApart` down.
use Rattle.std.specs.Prelude.{◌≡◌, ℕ, List, ◌∷◌, ◌++◌, Contains}
use Rattle.serve.specs.SocketEvents.{SocketEvent, port, accepted, shut}

-- between two connections that were accepted under one number at the port of an instance, the first
-- was shut
abbrev pub NumbersAreApart : List SocketEvent → Type 0
NumbersAreApart h =
    (i c : ℕ) (before between after : List SocketEvent)
    → h ≡ before ++ port i (accepted c) ∷ (between ++ port i (accepted c) ∷ after)
    → Contains between (port i (shut c))
