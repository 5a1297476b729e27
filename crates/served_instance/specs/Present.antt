-- Which events are refused, by what is kept. For the code alone: no public contract speaks of it.
use Rattle.std.specs.Prelude.{◌≡◌, ℕ, ◌==◌, Bool, nat_le, nat_lt, if◌then◌else◌, List, length, Option, Some, None, position}
use Rattle.std.specs.Option.{is_some, option_map_or}
use Rattle.conn_core.specs.StandsFor.{ConnectionValue}
use Rattle.job_queue.specs.Jobs.{Jobs, running_job}
use Rattle.execution.specs.declared.job.Job.{Job}
use Rattle.server_events.specs.Events.{LoneEvent, WhatValue, opened, received, took, closed, tick, ended}
use Rattle.served_instance.specs.declared.open_connection.OpenConnection.{OpenConnection}
use Rattle.served_instance.specs.declared.refusal.EventRefusal.{EventRefusal}
use Rattle.served_instance.specs.declared.refusal.EventRefusal.TheVariants.{TimeWentBack, ConnectionExists, TooManyConnections, NoSuchConnection, TookTooMuch, NoSuchJob}
use Rattle.served_instance.specs.declared.instance.TheConstants.{CONNECTION_LIMIT}
use Rattle.served_instance.specs.StandsFor.{ServedConnection}
use Rattle.served_instance.specs.Places.{connection_at}
use Rattle.served_instance.specs.Slots.{ServedSlots}

abbrev pub is_numbered : ℕ → OpenConnection → Bool
is_numbered c kept = kept.number == c

-- the connection of number c stands at this place, and none of this number before it
abbrev pub IsPlaceOf : ℕ → ℕ → List OpenConnection → Type 0
IsPlaceOf c place os = position (is_numbered c) os ≡ Some place

-- the open connection that an event is about stands at this place
abbrev pub IsPlaceFor : WhatValue → ℕ → List OpenConnection → Type 0
IsPlaceFor (received c bytes) place os = IsPlaceOf c place os
IsPlaceFor (took c n) place os = IsPlaceOf c place os
IsPlaceFor (closed c) place os = IsPlaceOf c place os
IsPlaceFor (opened c) place os = Unit {0}
IsPlaceFor tick place os = Unit {0}
IsPlaceFor (ended job outcome) place os = Unit {0}

-- the connection of each number stands where it stood
abbrev pub StayInPlace : List OpenConnection → List OpenConnection → Type 0
StayInPlace os ns = (c : ℕ) → position (is_numbered c) ns ≡ position (is_numbered c) os

abbrev pub unless_present : ℕ → List ServedConnection → Option EventRefusal
unless_present c vs = option_map_or (λ v. None) (connection_at c vs) (Some NoSuchConnection)

abbrev pub refusal_to_open : ℕ → List ServedConnection → Option EventRefusal
refusal_to_open c vs =
    if is_some (connection_at c vs) then Some ConnectionExists
    else if nat_le CONNECTION_LIMIT (length vs) then Some TooManyConnections
    else None

abbrev pub unless_more : ℕ → ConnectionValue → Option EventRefusal
unless_more n v = if nat_lt (length v.sending.pending) n then Some TookTooMuch else None

abbrev pub refusal_to_take : ℕ → ℕ → List ServedConnection → Option EventRefusal
refusal_to_take c n vs = option_map_or (unless_more n) (connection_at c vs) (Some NoSuchConnection)

abbrev pub unless_running : ℕ → Jobs Job → Option EventRefusal
unless_running n jobs = if is_some (running_job n jobs) then None else Some NoSuchJob

abbrev pub refusal_by_what : WhatValue → Jobs Job → List ServedConnection → Option EventRefusal
refusal_by_what (opened c) jobs vs = refusal_to_open c vs
refusal_by_what (received c bytes) jobs vs = unless_present c vs
refusal_by_what (took c n) jobs vs = refusal_to_take c n vs
refusal_by_what (closed c) jobs vs = unless_present c vs
refusal_by_what tick jobs vs = None
refusal_by_what (ended job outcome) jobs vs = unless_running job jobs

abbrev pub refusal_by : LoneEvent → ServedSlots → Option EventRefusal
refusal_by e v =
    if nat_lt e.moment v.instance.moment then Some TimeWentBack
    else refusal_by_what e.what v.instance.jobs v.connections
