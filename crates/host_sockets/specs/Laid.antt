-- What a list of what happened at sockets says of each connection.
use Rattle.std.specs.Prelude.{◌≡◌, ◌==◌, ℕ, if◌then◌else◌, List, [], ◌∷◌, ◌++◌, fold, Option, Some}
use Rattle.serve.specs.SocketEvents.{PortEvent, SocketEvent, clock, port, failed, accepted, read, written, shut}
use Rattle.host_sockets.specs.declared.port.Port.{Port}
use Rattle.host_sockets.specs.declared.watched.Watched.{Watched}
use Rattle.host_sockets.specs.Ports.{on, wires_of}
use Rattle.wires.specs.Wires.{WireEvent, came, sent}
use Rattle.wires.specs.Wires as wire

-- ---- of the connection of number c at the port of instance i, since it was accepted

abbrev pub at_number : ℕ → List WireEvent → PortEvent → List WireEvent
at_number c so (accepted d) = if d == c then [] else so
at_number c so (read d bytes) = if d == c then so ++ came bytes ∷ [] else so
at_number c so (written d bytes) = if d == c then so ++ sent bytes ∷ [] else so
at_number c so (shut d) = if d == c then so ++ wire.shut ∷ [] else so

abbrev pub failed_at : ℕ → List WireEvent → ℕ → List WireEvent
failed_at c so d = if d == c then so ++ wire.failed ∷ [] else so

abbrev pub on_wire : ℕ → ℕ → List WireEvent → SocketEvent → List WireEvent
on_wire i c so (clock n) = so
on_wire i c so (port j x) = if j == i then at_number c so x else so
on_wire i c so (failed j d) = if j == i then failed_at c so d else so

abbrev pub wire_events : ℕ → ℕ → List SocketEvent → List WireEvent
wire_events i c h = fold (on_wire i c) [] h

-- on each open connection, by the instance and the number, happened what the list says, where it is
-- known
abbrev pub AreLaid : {D W : Type 0} → (W → Option (List WireEvent)) → List (Port D W) →
    List SocketEvent → Type 0
AreLaid {D} {W} happened ports h = (i c : ℕ) (w : Watched W) (so : List WireEvent)
    → wires_of ports i c ≡ Some w → on happened w ≡ Some so → so ≡ wire_events i c h
