-- Why a connection is closed: for a reason of its own instance, and of no other one. To be read from
-- `MayBeShut` up.
use Rattle.std.specs.Prelude.{◌≡◌, ◌⊎◌, ◌-◌, ◌+◌, ◌≤◌, ◌==◌, ℕ, Bool, true, false, nat_lt, if◌then◌else◌, List, [], ◌∷◌, ◌++◌, length, fold, Some, None, IsSomeAnd}
use Rattle.std.specs.Option.{option_map}
use Rattle.served_instance.specs.Bytes.{pending_bytes}
use Rattle.served_instance.specs.CallsInCourse.{has_calls}
use Rattle.served_instance.specs.Connections.{open_at, open_ones}
use Rattle.served_instance.specs.History.{has_failed}
use Rattle.served_instance.specs.Lone.{LoneInstance}
use Rattle.served_instance.specs.declared.instance.TheConstants.{CONNECTION_LIMIT}
use Rattle.serve.specs.SocketEvents.{SocketEvent, clock, port, failed, accepted, read, shut, moment_of}
use Rattle.serve.specs.Happenings.{Happening, at_sockets}

-- ---- what happened at the port of an instance

-- all that did, and nothing else, with what the clock showed then; m is what it showed at first
abbrev pub own_from : ℕ → ℕ → List SocketEvent → List (ℕ × SocketEvent)
own_from i m [] = []
own_from i m (clock n ∷ h) = own_from i n h
own_from i m (port j p ∷ h) = if j == i then (m, port j p) ∷ own_from i m h else own_from i m h
own_from i m (failed j c ∷ h) = if j == i then (m, failed j c) ∷ own_from i m h else own_from i m h

abbrev pub own_past : ℕ → List SocketEvent → List (ℕ × SocketEvent)
own_past i h = own_from i 0 h

-- when something came from a client last, or it was accepted; how many bytes came since it was; and
-- whether it sends no more, or a call on its connection failed
pub record Client : Type 0 where
  pub heard : ℕ
  pub received : ℕ
  pub is_gone : Bool

abbrev pub nobody : Client
nobody = record { heard = 0; received = 0; is_gone = false }

-- with no bytes a client says that it sends no more
abbrev pub client_on : ℕ → Client → ℕ × SocketEvent → Client
client_on c k (m, port j (accepted d)) =
    if c == d then record { heard = m; received = 0; is_gone = false } else k
client_on c k (m, port j (read d bytes)) =
    if c == d then record {
      heard = m;
      received = k.received + length bytes;
      is_gone = length bytes == 0;
    } else k
client_on c k (m, failed j d) = if c == d then record k { is_gone = true } else k
client_on c k x = k

-- of the client that was accepted under a number last
abbrev pub client_in : List (ℕ × SocketEvent) → ℕ → Client
client_in past c = fold (client_on c) nobody past

-- ---- who makes room

-- the connection is open, and no call on it is in course that its client sent whole
abbrev pub IsIdle : ℕ → LoneInstance → Type 0
IsIdle c l = option_map (λ p. has_calls p.history) (open_at c l.connections) ≡ Some false

-- how many milliseconds without a byte are long: fewer where fewer bytes came than a preface has
abbrev pub silence_limit : ℕ → ℕ
silence_limit received = if nat_lt received 24 then 10000 else 60000

abbrev pub IsSilent : ℕ → Client → Type 0
IsSilent m k = silence_limit k.received ≤ m - k.heard

-- the instance has as many open connections as it may have
abbrev pub IsFull : LoneInstance → Type 0
IsFull l = CONNECTION_LIMIT ≤ length (open_ones l.connections)

-- just now a client was accepted, and closed at once
pub record HasTurnedAway (past : List (ℕ × SocketEvent)) : Type 0 where
  pub earlier : List (ℕ × SocketEvent)
  pub moment : ℕ
  pub instance : ℕ
  pub connection : ℕ
  pub last : past ≡ earlier ++ (moment, port instance (accepted connection))
      ∷ (moment, port instance (shut connection)) ∷ []

-- the full instance has just turned a client away; this one was silent for long, and is idle
pub record MakesRoom (m c : ℕ) (past : List (ℕ × SocketEvent)) (l : LoneInstance) : Type 0 where
  pub full : IsFull l
  pub wanted : HasTurnedAway past
  pub silent : IsSilent m (client_in past c)
  pub idle : IsIdle c l

-- ---- all reasons

-- an error of the connection was met, and its client was sent all that waited
abbrev pub IsFaulty : ℕ → LoneInstance → Type 0
IsFaulty c l = IsSomeAnd (open_at c l.connections)
    (λ p. (has_failed p.history ≡ true) × (pending_bytes p.history ≡ []))

-- the instance has no such connection open, or is done with it
abbrev pub IsOver : ℕ → LoneInstance → Type 0
IsOver c l = (open_at c l.connections ≡ None) ⊎ IsFaulty c l

-- at moment m, where this happened at the port of an instance, which has come to l, and nothing
-- else is asked
pub data MayBeShut (m c : ℕ) (past : List (ℕ × SocketEvent)) (l : LoneInstance) : Type 0 where
  -- it refused the connection, or let go of it for want of memory
  not_there : open_at c l.connections ≡ None → MayBeShut m c past l
  faulty : IsFaulty c l → MayBeShut m c past l
  -- its client sends no more, or a call on it failed
  left : (client_in past c).is_gone ≡ true → MayBeShut m c past l
  gives_way : MakesRoom m c past l → MayBeShut m c past l

-- what happens behind all this is right for instance i: a connection of it that is closed may be
abbrev pub IsShutRightly : ℕ → List SocketEvent → LoneInstance → Happening → Type 0
IsShutRightly i before l (at_sockets (port j (shut c))) =
    j ≡ i → MayBeShut (moment_of before) c (own_past i before) l
IsShutRightly i before l x = Unit {0}
