-- Which events an instance refuses, and why: the first of these reasons, in their order.
use Rattle.std.specs.Prelude.{◌≡◌, ℕ, List, nat_le, nat_lt, if◌then◌else◌, [], length, Option, Some, None, Result, Ok, Err}
use Rattle.std.specs.Option.{is_some, option_map_or}
use Rattle.grpc_sending.specs.Bytes.{untaken_count}
use Rattle.job_queue.specs.Jobs.{running_job}
use Rattle.execution.specs.Orders.{OrderValue}
use Rattle.instance_core.specs.Visible.{Blob}
use Rattle.server_events.specs.Events.{LoneEvent, WhatValue, opened, received, took, closed, tick, ended}
use Rattle.served_instance.specs.declared.refusal.EventRefusal.{EventRefusal}
use Rattle.served_instance.specs.declared.refusal.EventRefusal.TheVariants.{TimeWentBack, ConnectionExists, TooManyConnections, NoSuchConnection, TookTooMuch, NoSuchJob, NoMemory}
use Rattle.served_instance.specs.declared.instance.TheConstants.{CONNECTION_LIMIT}
use Rattle.served_instance.specs.Connections.{open_ones, open_at}
use Rattle.served_instance.specs.Lone.{LoneInstance, after_event, lone_at_moment, orders_of_what}

abbrev pub unless_open : ℕ → LoneInstance → Option EventRefusal
unless_open c l = option_map_or (λ p. None) (open_at c l.connections) (Some NoSuchConnection)

abbrev pub refusal_of_what : WhatValue → LoneInstance → Option EventRefusal
refusal_of_what (opened c) l =
    if is_some (open_at c l.connections) then Some ConnectionExists
    else if nat_le CONNECTION_LIMIT (length (open_ones l.connections)) then Some TooManyConnections
    else None
refusal_of_what (received c bytes) l = unless_open c l
-- more than was put and not taken yet
refusal_of_what (took c n) l =
    option_map_or (λ p. if nat_lt (untaken_count p.history) n then Some TookTooMuch else None)
    (open_at c l.connections) (Some NoSuchConnection)
refusal_of_what (closed c) l = unless_open c l
refusal_of_what tick l = None
-- no job runs under the number
refusal_of_what (ended job outcome) l =
    if is_some (running_job job l.state.jobs) then None else Some NoSuchJob

-- time does not go back
abbrev pub refusal_of : LoneEvent → LoneInstance → Option EventRefusal
refusal_of e l =
    if nat_lt e.moment l.state.moment then Some TimeWentBack else refusal_of_what e.what l

-- a refused event changes nothing
abbrev pub after_event_unless : List Blob → LoneEvent → LoneInstance → Option EventRefusal →
    LoneInstance
after_event_unless parent e l None = after_event parent e l
after_event_unless parent e l (Some refusal) = l

-- what an event makes of an instance, while its parent has these texts
abbrev pub lone_step : List Blob → LoneEvent → LoneInstance → LoneInstance
lone_step parent e l = after_event_unless parent e l (refusal_of e l)

-- what an event orders, while the instance's parent has these texts; nothing where it is refused
abbrev pub orders_unless : List Blob → LoneEvent → LoneInstance → Option EventRefusal →
    List OrderValue
orders_unless parent e l None = orders_of_what e.what (lone_at_moment e.moment parent l)
orders_unless parent e l (Some refusal) = []

abbrev pub lone_orders : List Blob → LoneEvent → LoneInstance → List OrderValue
lone_orders parent e l = orders_unless parent e l (refusal_of e l)

-- an event is refused for its reason, where there is one; and for want of memory only where there
-- is none
abbrev pub IsRefusalOutcome : {A : Type 0} → Result A EventRefusal → Option EventRefusal → Type 0
IsRefusalOutcome (Ok x) reason = reason ≡ None
IsRefusalOutcome (Err NoMemory) reason = reason ≡ None
IsRefusalOutcome (Err refusal) reason = reason ≡ Some refusal

-- an event that takes no memory: bytes were taken, or a connection was closed
abbrev pub NeedsNoMemory : WhatValue → Type 0
NeedsNoMemory (opened c) = ⊥
NeedsNoMemory (received c bytes) = ⊥
NeedsNoMemory (took c n) = Unit {0}
NeedsNoMemory (closed c) = Unit {0}
NeedsNoMemory tick = ⊥
NeedsNoMemory (ended job outcome) = ⊥
