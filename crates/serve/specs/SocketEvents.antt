-- What happens at the sockets of a server, and which event of its instance it is.
use Rattle.std.specs.Prelude.{◌≡◌, ◌⊎◌, ℕ, if◌then◌else◌, List, [], ◌∷◌, ◌++◌, length, take, fold, Option, None, Result, Ok, Err, ⊤}
use Rattle.std.specs.Option.{option_map}
use Rattle.std.specs.IoError.{error_kind}
use Rattle.std.specs.declared.io.Error.{Error}
use Rattle.server_events.specs.Events.{WhatValue, opened, received, took, closed}
use Rattle.wires.specs.Wires.{is_unready}
use Rattle.serve.specs.declared.sockets.Socket.{Socket}

-- at a port a connection was accepted under a number; these bytes were read from it; these were
-- written to it; or it was closed
pub data PortEvent : Type 0 where
  accepted : ℕ → PortEvent
  read : ℕ → List ℕ → PortEvent
  written : ℕ → List ℕ → PortEvent
  shut : ℕ → PortEvent

-- the clock was read, in milliseconds; or something happened at the port of the instance of a
-- number; or there a call failed on the connection of a number
pub data SocketEvent : Type 0 where
  clock : ℕ → SocketEvent
  port : ℕ → PortEvent → SocketEvent
  failed : ℕ → ℕ → SocketEvent

-- ---- what a call of the sockets adds, by its result

abbrev pub failure_events : Socket → Error → List SocketEvent
failure_events at e =
    if is_unready (error_kind e) then [] else failed at.instance at.connection ∷ []

abbrev pub accept_events : {E : Type 0} → Socket → Result ⊤ E → List SocketEvent
accept_events at (Ok x) = port at.instance (accepted at.connection) ∷ []
accept_events at (Err e) = []

abbrev pub read_events : Socket → Result ℕ Error → List ℕ → List SocketEvent
read_events at (Ok n) room = port at.instance (read at.connection (take n room)) ∷ []
read_events at (Err e) room = failure_events at e

abbrev pub write_events : Socket → Result ℕ Error → List ℕ → List SocketEvent
write_events at (Ok n) bytes = port at.instance (written at.connection (take n bytes)) ∷ []
write_events at (Err e) bytes = failure_events at e

abbrev pub shutdown_events : Socket → List SocketEvent
shutdown_events at = port at.instance (shut at.connection) ∷ []

-- this happened next
abbrev pub AddsAll : Option (List SocketEvent) → Option (List SocketEvent) → List SocketEvent →
    Type 0
AddsAll before after more = after ≡ option_map (λ h. h ++ more) before

-- where it is known then what happened, it was known before, and this happened next
abbrev pub Adds : Option (List SocketEvent) → Option (List SocketEvent) → List SocketEvent → Type 0
Adds before after more = (after ≡ None) ⊎ AddsAll before after more

-- whatever list stood for it before, with these events it stands for it afterwards
abbrev pub Carries : (List SocketEvent → Type 0) → (List SocketEvent → Type 0) → List SocketEvent →
    Type 0
Carries old new more = (h : List SocketEvent) → old h → new (h ++ more)

-- ---- what it is to the instance of the port

abbrev pub what_of : PortEvent → WhatValue
what_of (accepted c) = opened c
what_of (read c bytes) = received c bytes
what_of (written c bytes) = took c (length bytes)
what_of (shut c) = closed c

-- ---- the clock

abbrev pub moment_after : ℕ → SocketEvent → ℕ
moment_after m (clock n) = n
moment_after m (port j p) = m
moment_after m (failed j c) = m

-- what the clock showed last
abbrev pub moment_of : List SocketEvent → ℕ
moment_of h = fold moment_after 0 h
