-- What happens to a server: at its sockets and at the runs of its jobs, and that instances are told
-- the time, in one order; and which event it is, of whose instance.
use Rattle.std.specs.Prelude.{ℕ, Bool, List, [], ◌∷◌, ◌++◌, length, map, fold, filter, Option, Some, None}
use Rattle.std.specs.List.{range_with_len}
use Rattle.server_events.specs.Events.{EventValue, WhatValue, tick, ended}
use Rattle.serve.specs.SocketEvents.{SocketEvent, clock, port, failed, what_of}
use Rattle.serve.specs.RunEvents.{RunEvent, gave}

pub data Happening : Type 0 where
  at_sockets : SocketEvent → Happening
  -- the instance of a number is told what the clock showed last
  told : ℕ → Happening
  at_runs : RunEvent → Happening

-- .. and whether it is marked: memory was refused in it to the instance whose event it is
abbrev pub MarkedHappening : Type 0
MarkedHappening = Happening × Bool

-- what of it happened at the runs, and what not
abbrev pub run_event : MarkedHappening → Option RunEvent
run_event (at_runs r, b) = Some r
run_event x = None

abbrev pub timed_event : MarkedHappening → Option Happening
timed_event (at_runs r, b) = None
timed_event x = Some x.0

-- how many are marked
abbrev pub cuts : List MarkedHappening → ℕ
cuts h = length (filter (λ x. x.1) h)

-- what happens at the sockets, where each of so many instances, in order, is told the time as soon
-- as the clock was read
abbrev pub with_times : ℕ → SocketEvent → List Happening
with_times count (clock n) = at_sockets (clock n) ∷ map told (range_with_len 0 count)
with_times count (port j p) = at_sockets (port j p) ∷ []
with_times count (failed j c) = at_sockets (failed j c) ∷ []

-- what the clock showed last, where it showed this before
abbrev pub moment_then : ℕ → Happening → ℕ
moment_then m (at_sockets (clock n)) = n
moment_then m x = m

-- what happened at the sockets, where this had happened there before
abbrev pub sockets_then : List SocketEvent → Happening → List SocketEvent
sockets_then before (at_sockets s) = before ++ s ∷ []
sockets_then before x = before

abbrev pub sockets_on : List SocketEvent → MarkedHappening → List SocketEvent
sockets_on before x = sockets_then before x.0

abbrev pub sockets_in : List MarkedHappening → List SocketEvent
sockets_in h = fold sockets_on [] h

-- which event it is, if it is one of an instance: what happens at its port, what a run of a job of
-- it gave, and that it is told the time
abbrev pub event_told : ℕ → ℕ → WhatValue → EventValue
event_told m j what = record { instance = j; lone = record { moment = m; what = what } }

abbrev pub event_then : ℕ → Happening → Option EventValue
event_then m (at_sockets (port j p)) = Some (event_told m j (what_of p))
event_then m (told j) = Some (event_told m j tick)
event_then m (at_runs (gave j job outcome)) = Some (event_told m j (ended job outcome))
event_then m x = None
