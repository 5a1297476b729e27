-- What is told of doors and connections: it stays so until a call finds nothing there, and where
-- something is left of which nothing more is told nobody waits for long.
use Rattle.std.specs.Prelude.{◌≡◌, ◌⊎◌, ◌||◌, ℕ, Bool, true, min, if◌then◌else◌, nat_lt, List, length, slice_get, IfSome, Option, None, Some, Result, Ok, Err, ⊤}
use Rattle.std.specs.List.{AllByRecursion, AllZip, list_any}
use Rattle.std.specs.Map.{values_of}
use Rattle.std.specs.IoError.{error_kind}
use Rattle.std.specs.declared.io.Error.{Error}
use Rattle.std.specs.declared.io.ErrorKind.TheVariants.{WouldBlock}
use Rattle.wires.specs.declared.News.{News}
use Rattle.host_sockets.specs.declared.port.Port.{Port}
use Rattle.host_sockets.specs.declared.watched.Watched.{Watched}
use Rattle.host_sockets.specs.Ports.{Turns, wire_at}

-- a call found that nothing is there
abbrev pub FindsNothing : {T : Type 0} → Result T Error → Type 0
FindsNothing (Ok x) = ⊥
FindsNothing (Err e) = error_kind e ≡ WouldBlock

-- what is told stays so, but where a call finds nothing
abbrev pub StaysTold : {T : Type 0} → Result T Error → Bool → Bool → Type 0
StaysTold result old new = old ≡ true → (new ≡ true) ⊎ FindsNothing result

-- that something came on the connection of this number stays told, but where a read finds nothing
abbrev pub StaysToldAt : {D W : Type 0} → ℕ → Result ℕ Error → Port D W → Port D W → Type 0
StaysToldAt connection result old new =
    Turns (λ w v. StaysTold result w.may_read v.may_read)
    (wire_at connection old.wires.entries) (wire_at connection new.wires.entries)

-- that a client may wait stays told, but where none is found
abbrev pub StaysToldOf : {D W : Type 0} → Result ⊤ Error → Port D W → Port D W → Type 0
StaysToldOf result old new = StaysTold result old.may_wait new.may_wait

-- it is the same connection, and what is told of it stays so
pub record IsTold {W : Type 0} (old new : Watched W) : Type 0 where
  pub wire : new.wire ≡ old.wire
  pub reads : old.may_read ≡ true → new.may_read ≡ true
  pub writes : old.may_write ≡ true → new.may_write ≡ true

-- a port is where it was, with its door, its open connections and what lingers, and what is told of
-- them stays so
pub record OnlyTold {D W : Type 0} (old new : Port D W) : Type 0 where
  pub address : new.address ≡ old.address
  pub door : new.door ≡ old.door
  pub wires : (c : ℕ) → Turns IsTold (wire_at c old.wires.entries) (wire_at c new.wires.entries)
  pub lingering : new.lingering ≡ old.lingering
  pub clients : old.may_wait ≡ true → new.may_wait ≡ true

-- so is each of these ports, in their order
abbrev pub AreTold : {D W : Type 0} → List (Port D W) → List (Port D W) → Type 0
AreTold old new = AllZip OnlyTold old new

-- this is told at a port: of its door, or of the connection of a number, if there is one
abbrev pub IsToldTo : {W : Type 0} → ℕ → News → List (ℕ × Watched W) → Type 0
IsToldTo c news wires = IfSome (wire_at c wires) (λ w.
    (news.may_read ≡ true → w.may_read ≡ true) × (news.may_write ≡ true → w.may_write ≡ true))

abbrev pub IsToldOf : {D W : Type 0} → Option ℕ → News → Port D W → Type 0
IsToldOf None news port = port.may_wait ≡ true
IsToldOf (Some c) news port = IsToldTo c news port.wires.entries

-- all that a host learned is told at its ports, where it is known
abbrev pub IsPassedOn : {D W : Type 0} → News → List (Port D W) → Type 0
IsPassedOn news ports = IfSome (slice_get ports news.place) (IsToldOf news.number news)

abbrev pub ArePassedOn : {D W : Type 0} → Option (List News) → List (Port D W) → Type 0
ArePassedOn learned ports =
    IfSome learned (AllByRecursion (λ news. IsPassedOn news ports))

-- whether something may have come on an open connection that was not taken
abbrev pub may_read : {D W : Type 0} → Port D W → Bool
may_read port = list_any (λ w. w.may_read) (values_of port.wires.entries)

-- whether something may have come on the connection of a number; of one that is not open it is to be
-- asked
abbrev pub may_read_of : {W : Type 0} → Option (Watched W) → Bool
may_read_of None = true
may_read_of (Some w) = w.may_read

abbrev pub may_read_on : {D W : Type 0} → ℕ → Port D W → Bool
may_read_on connection port = may_read_of (wire_at connection port.wires.entries)

-- whether there is something to do at a port of which nothing more is told: a client may wait, a
-- closed connection lingers, or something may have come on an open one
abbrev pub has_more : {D W : Type 0} → Port D W → Bool
has_more port = port.may_wait || (nat_lt 0 (length port.lingering.items) || may_read port)

-- for how many milliseconds ports wait for more that may wait for so many
abbrev pub wait_of : {D W : Type 0} → ℕ → List (Port D W) → ℕ
wait_of most ports = if list_any has_more ports then min most 1 else most
