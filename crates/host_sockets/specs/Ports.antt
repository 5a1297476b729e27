-- At which port each instance is served, and what happens on the connections there.
use Rattle.std.specs.Prelude.{◌≡◌, ◌≢◌, ◌==◌, ◌⊎◌, ℕ, Bool, true, IfSome, IsSomeAnd, List, [], ◌∷◌, ◌++◌, is_some, map, slice_get, Option, Some, None, Result, Ok, Err, ⊤}
use Rattle.std.specs.List.{AllByRecursion, AllZip}
use Rattle.std.specs.Option.{option_and_then}
use Rattle.std.specs.Map.{lookup}
use Rattle.std.specs.Net.Socket.{socket_ip, socket_port}
use Rattle.std.specs.declared.net.ip_addr.IpAddr.{IpAddr}
use Rattle.std.specs.declared.net.socket_addr.SocketAddr.{SocketAddr}
use Rattle.host_sockets.specs.declared.HostSockets.{HostSockets}
use Rattle.host_sockets.specs.declared.lingering.Lingering.{Lingering}
use Rattle.host_sockets.specs.declared.port.Port.{Port}
use Rattle.host_sockets.specs.declared.watched.Watched.{Watched}
use Rattle.host_sockets.specs.Came.{OnlyCame}
use Rattle.wires.specs.Wires.{WireEvent, Adds, IsNew, shut}

-- what was there becomes this; where nothing was, nothing is
abbrev pub Turns : {X : Type 0} → (X → X → Type 0) → Option X → Option X → Type 0
Turns Becomes None new = new ≡ None
Turns Becomes (Some x) new = IsSomeAnd new (Becomes x)

-- ---- the connections of a port, by their numbers, each with what is known of it

-- the connection of this number
abbrev pub wire_at : {W : Type 0} → ℕ → List (ℕ × W) → Option W
wire_at c wires = lookup (λ n. c == n) wires

-- whether there is one
abbrev pub has_open : {W : Type 0} → ℕ → List (ℕ × W) → Bool
has_open c wires = is_some (wire_at c wires)

-- those of other numbers are the same
abbrev pub OthersHold : {W : Type 0} → ℕ → List (ℕ × W) → List (ℕ × W) → Type 0
OthersHold c old new = (d : ℕ) → d ≢ c → wire_at d new ≡ wire_at d old

-- this happened next on the connection of this number, if there is one, and on no other
abbrev pub HappensOn : {W : Type 0} → (W → Option (List WireEvent)) → ℕ → List WireEvent →
    List (ℕ × W) → List (ℕ × W) → Type 0
HappensOn happened c more old new =
    Turns (λ w v. Adds (happened w) (happened v) more) (wire_at c old) (wire_at c new)
    × OthersHold c old new

-- what happened on a connection, as far as it is known
abbrev pub on : {W : Type 0} → (W → Option (List WireEvent)) → Watched W → Option (List WireEvent)
on happened watched = happened watched.wire

-- it was let in next, nothing happened on it yet, and what comes on it is told under this number
pub record IsLetIn {W : Type 0} (happened : W → Option (List WireEvent)) (number : W → Option ℕ)
    (c : ℕ) (before after : Option (List W)) (wire : W) : Type 0 where
  pub next : Adds before after (wire ∷ [])
  pub new : IsNew (happened wire)
  pub told : IfSome (number wire) (λ n. n ≡ c)

-- the client with this number is the one that the door let in next, and new; without an answer the
-- door let nobody in
abbrev pub LetsIn : {W E : Type 0} → (W → Option (List WireEvent)) → (W → Option ℕ) → ℕ →
    Result ⊤ E → Option (List W) → List (ℕ × Watched W) → Option (List W) → List (ℕ × Watched W) →
    Type 0
LetsIn happened number c (Ok x) before old after new =
    IsSomeAnd (wire_at c new) (λ w. IsLetIn happened number c before after w.wire)
    × OthersHold c old new
LetsIn happened number c (Err e) before old after new =
    Adds before after [] × ((d : ℕ) → wire_at d new ≡ wire_at d old)

-- what is kept of a connection, among those that linger, was shut; where there was none, none is
abbrev pub IsKept : {W : Type 0} → (W → Option (List WireEvent)) → Option (Watched W) →
    List (Lingering W) → List (Lingering W) → Type 0
IsKept happened None old new = new ≡ old
IsKept {W} happened (Some w) old new = (new ≡ old)
    ⊎ ((kept : Lingering W) × (new ≡ old ++ kept ∷ [])
    × Adds (on happened w) (happened kept.wire) (shut ∷ []))

-- the connection of this number is gone, and no other
abbrev pub Closes : {W : Type 0} → (W → Option (List WireEvent)) → ℕ → List (ℕ × Watched W) →
    List (Lingering W) → List (ℕ × Watched W) → List (Lingering W) → Type 0
Closes happened c old lingered new lingering =
    (wire_at c new ≡ None) × IsKept happened (wire_at c old) lingered lingering
    × OthersHold c old new

-- these are left of those that linger, in their order, and on these bytes came at most
abbrev pub AreLeft : {W : Type 0} → (W → Option (List WireEvent)) → List (Lingering W) →
    List (Lingering W) → Type 0
AreLeft happened [] new = new ≡ []
AreLeft {W} happened (x ∷ old) new = (rest : List (Lingering W)) × AreLeft happened old rest
    × ((new ≡ rest)
    ⊎ ((kept : Lingering W) × OnlyCame happened x.wire kept.wire × (new ≡ kept ∷ rest)))

-- ---- ports, by the instances' numbers

-- the addresses at which there is listening
abbrev pub addresses : {H D W : Type 0} → HostSockets H D W → List SocketAddr
addresses sockets = map (λ port. port.address) sockets.ports.items

-- it is listened on these ports, in their order, and at no other address of the host
pub record ListensAt {H D W : Type 0} (ip : IpAddr) (numbers : List ℕ)
    (sockets : HostSockets H D W) : Type 0 where
  pub on_ports : map socket_port (addresses sockets) ≡ numbers
  pub at_ip : AllByRecursion (λ address. socket_ip address ≡ ip) (addresses sockets)

-- each door is where its port is said to be, and what comes there is told under the port's place,
-- as far as it is known
abbrev pub AreAt : {D W : Type 0} → (D → Option (SocketAddr × ℕ)) → List (Port D W) → Type 0
AreAt {D} {W} at ports = (place : ℕ) (port : Port D W) → slice_get ports place ≡ Some port
    → IfSome (at port.door) (λ known. known ≡ (port.address, place))

-- the connection of a number at the port of an instance, if there is one
abbrev pub wires_of : {D W : Type 0} → List (Port D W) → ℕ → ℕ → Option (Watched W)
wires_of ports instance connection =
    option_and_then (λ port. wire_at connection port.wires.entries) (slice_get ports instance)

-- there is none yet
abbrev pub NoneIsOpen : {D W : Type 0} → List (Port D W) → Type 0
NoneIsOpen ports = (instance connection : ℕ) → wires_of ports instance connection ≡ None

-- what happens at the port of an instance changes nothing at those of others, nor where they are
pub record OthersStay {D W : Type 0} (instance : ℕ) (old new : List (Port D W)) : Type 0 where
  pub addresses : map (λ port. port.address) new ≡ map (λ port. port.address) old
  pub others : (other : ℕ) → other ≢ instance → slice_get new other ≡ slice_get old other

-- a socket is open, at the port of its instance
abbrev pub IsOpen : {D W : Type 0} → ℕ → ℕ → List (Port D W) → Type 0
IsOpen instance connection ports = IsSomeAnd (slice_get ports instance)
    (λ port. has_open connection port.wires.entries ≡ true)

-- at the port of an instance, if there is one, what was becomes this
abbrev pub BecomesAt : {D W : Type 0} → ℕ → (Port D W → Port D W → Type 0) → List (Port D W) →
    List (Port D W) → Type 0
BecomesAt instance Becomes old new =
    Turns Becomes (slice_get old instance) (slice_get new instance)

-- this happened next on one connection; the door, and what lingers, are the same
abbrev pub HappensAt : {D W : Type 0} → (W → Option (List WireEvent)) → ℕ → List WireEvent →
    Port D W → Port D W → Type 0
HappensAt happened connection more old new =
    HappensOn (on happened) connection more old.wires.entries new.wires.entries
    × (new.door ≡ old.door) × (new.lingering ≡ old.lingering)

-- a client is let in by the port's own door, as `LetsIn` says, which is where it was; what lingers
-- is the same
abbrev pub LetsInAt : {D W E : Type 0} → (W → Option (List WireEvent)) → (W → Option ℕ) →
    (D → Option (List W)) → (D → Option (SocketAddr × ℕ)) → ℕ → Result ⊤ E → Port D W →
    Port D W → Type 0
LetsInAt happened number given at connection result old new =
    LetsIn happened number connection result (given old.door) old.wires.entries (given new.door)
    new.wires.entries × (at new.door ≡ at old.door) × (new.lingering ≡ old.lingering)

-- a connection is closed, as `Closes` says; the door is the same
abbrev pub ClosesAt : {D W : Type 0} → (W → Option (List WireEvent)) → ℕ → Port D W →
    Port D W → Type 0
ClosesAt happened connection old new =
    Closes happened connection old.wires.entries old.lingering.items new.wires.entries
    new.lingering.items × (new.door ≡ old.door)

-- a port is where it was, with its open connections; of closed ones some may be gone, and on the
-- others bytes came at most
pub record OnlyClosedGo {D W : Type 0} (happened : W → Option (List WireEvent))
    (old new : Port D W) : Type 0 where
  pub address : new.address ≡ old.address
  pub door : new.door ≡ old.door
  pub wires : new.wires ≡ old.wires
  pub lingering : AreLeft happened old.lingering.items new.lingering.items

-- so is each of these ports, in their order
abbrev pub OpenStay : {D W : Type 0} → (W → Option (List WireEvent)) → List (Port D W) →
    List (Port D W) → Type 0
OpenStay happened old new = AllZip (OnlyClosedGo happened) old new
