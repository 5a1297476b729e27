-- What a server has to do with what happens at its sockets and at the runs of its jobs, also where
-- memory is refused. To be read from `IsServed` up.
use Rattle.std.specs.Prelude.{◌≡◌, ◌<◌, ◌-◌, ◌^◌, ℕ, min, Bool, true, false, List, [], ◌∷◌, map, length, slice_set, Option, Some, None, IsSomeAnd, IfSome}
use Rattle.std.specs.Option.{option_map_or, option_and_then}
use Rattle.std.specs.List.{filter_map, flat_map, slice_get}
use Rattle.std.specs.Io.{StartsWith}
use Rattle.execution.specs.Orders.{OrderValue, task_of}
use Rattle.instance_core.specs.Visible.{Blob}
use Rattle.served_instance.specs.Bytes.{pending_bytes}
use Rattle.server_events.specs.Configs.{ConfigValue, parents_of}
use Rattle.server_events.specs.Events.{EventValue, LoneEvent, took}
use Rattle.server_events.specs.Faults.{AreParents}
use Rattle.served_instance.specs.Connections.{open_at}
use Rattle.served_instance.specs.Lone.{LoneInstance, new_lone}
use Rattle.served_instance.specs.Refusals.{refusal_of, lone_orders, lone_step}
use Rattle.served_instance.specs.Short.{Short}
use Rattle.server_core.specs.Parents.{parent_at}
use Rattle.serve.specs.SocketEvents.{SocketEvent, port, accepted, written, failed}
use Rattle.serve.specs.Closings.{IsShutRightly}
use Rattle.serve.specs.RunEvents.{RunEvent, ordered, lent}
use Rattle.serve.specs.Happenings.{Happening, MarkedHappening, at_sockets, at_runs, cuts, run_event, timed_event, with_times, moment_then, sockets_then, event_then}

-- ---- what is right at the port of an instance, and at its runs

-- the connection is open, and these are the first of the bytes that wait on it
abbrev pub AreNext : ℕ → LoneInstance → List ℕ → Type 0
AreNext c l bytes =
    IsSomeAnd (open_at c l.connections) (λ p. StartsWith (pending_bytes p.history) bytes)

-- these are the next bytes of a connection, and the instance counts them as taken
abbrev pub AreBytesWritten : ℕ → ℕ → List ℕ → LoneInstance → Type 0
AreBytesWritten m c bytes l =
    AreNext c l bytes × (refusal_of (record { moment = m; what = took c (length bytes) }) l ≡ None)

-- a connection is accepted under a number that no open one has; what is written to one is what the
-- instance has waiting on it then, and counts as taken; and what a run is lent is the task, with
-- its texts, of the job of its number that runs then, and nothing where none does
abbrev pub IsFaithful : ℕ → ℕ → LoneInstance → Happening → Type 0
IsFaithful i m l (at_sockets (port j (written c bytes))) = j ≡ i → AreBytesWritten m c bytes l
IsFaithful i m l (at_sockets (port j (accepted c))) = j ≡ i → open_at c l.connections ≡ None
IsFaithful i m l (at_runs (lent j job task)) = j ≡ i → task ≡ task_of job l.state.jobs
IsFaithful i m l x = Unit {0}

abbrev pub AreFaithful : ℕ → List LoneInstance → Happening → Type 0
AreFaithful m ls x = (i : ℕ) (l : LoneInstance) → slice_get ls i ≡ Some l → IsFaithful i m l x

-- .. and for all of them a connection that is closed may be, behind all this
abbrev pub AreShutRightly : List SocketEvent → List LoneInstance → Happening → Type 0
AreShutRightly before ls x =
    (i : ℕ) (l : LoneInstance) → slice_get ls i ≡ Some l → IsShutRightly i before l x

-- ---- what an event makes of its instance

-- what it may make of l, and order, while the parent has these texts: what it does by itself; or,
-- where it is marked, since nothing else refuses it and memory was refused, a part of that, with no
-- order
abbrev pub MayStep : List Blob → LoneEvent → Bool → LoneInstance → LoneInstance →
    List OrderValue → Type 0
MayStep parent e false l k orders = (k ≡ lone_step parent e l) × (orders ≡ lone_orders parent e l)
MayStep parent e true l k orders =
    (refusal_of e l ≡ None) × Short parent e l k × (orders ≡ [])

-- ---- all instances

-- what they have come to, by their numbers, and what is ordered and not yet carried out
pub record AtWork : Type 0 where
  pub instances : List LoneInstance
  pub orders : List RunEvent

abbrev pub with_orders : List LoneInstance → List RunEvent → AtWork
with_orders ls orders = record { instances = ls; orders = orders }

-- the texts that the parent of instance i has now, if it has one
abbrev pub texts_beside : ℕ → List (Option ℕ) → List LoneInstance → List Blob
texts_beside i parents ls =
    option_map_or (λ l. l.state.visible)
    (option_and_then (slice_get ls) (parent_at i parents)) []

-- the instance that it names takes an event, and gives orders; all others stay
pub record IsTaken (parents : List (Option ℕ)) (e : EventValue) (marked : Bool)
    (ls : List LoneInstance) (w : AtWork) : Type 0 where
  pub was : LoneInstance
  pub there : slice_get ls e.instance ≡ Some was
  pub now : LoneInstance
  pub orders : List OrderValue
  pub step : MayStep (texts_beside e.instance parents ls) e.lone marked was now orders
  pub so : w ≡ with_orders (slice_set ls e.instance now) (map (ordered e.instance) orders)

-- where it is an event it is taken; else all stay, and nothing is marked
abbrev pub IsTakenIf : List (Option ℕ) → Option EventValue → Bool → List LoneInstance → AtWork →
    Type 0
IsTakenIf parents (Some e) marked ls w = IsTaken parents e marked ls w
IsTakenIf parents None marked ls w = (marked ≡ false) × (w ≡ with_orders ls [])

-- all orders are carried out, and what happens at moment m is right for each instance
abbrev pub Comes : List (Option ℕ) → ℕ → AtWork → MarkedHappening → AtWork → Type 0
Comes parents m w x v =
    (w.orders ≡ []) × AreFaithful m w.instances x.0
    × IsTakenIf parents (event_then m x.0) x.1 w.instances v

-- an order is carried out where it is the next; a task is lent at an instance that is there
abbrev pub Happens : List (Option ℕ) → ℕ → AtWork → MarkedHappening → AtWork → Type 0
Happens parents m w (at_runs (ordered j o), b) v =
    (b ≡ false) × (w ≡ with_orders v.instances (ordered j o ∷ v.orders))
Happens parents m w (at_runs (lent j job task), b) v =
    (j < length w.instances) × Comes parents m w (at_runs (lent j job task), b) v
Happens parents m w (at_sockets (failed j c), b) v =
    (j < length w.instances) × Comes parents m w (at_sockets (failed j c), b) v
Happens parents m w x v = Comes parents m w x v

-- from moment m on, behind what happened at the sockets before, all this happens, one after
-- another; and a connection is closed for a reason of its own instance alone
abbrev pub MayServe : List (Option ℕ) → List SocketEvent → ℕ → AtWork → List MarkedHappening →
    AtWork → Type 0
MayServe parents before m w [] v = v ≡ w
MayServe parents before m w (x ∷ h) v =
    (k : AtWork) × Happens parents m w x k × AreShutRightly before w.instances x.0
    × MayServe parents (sockets_then before x.0) (moment_then m x.0) k h v

-- .. from nothing on, and all orders are carried out
abbrev pub begun : ConfigValue → LoneInstance
begun config = new_lone config.name config.quota config.slots config.limits

abbrev pub ServesAll : List ConfigValue → List MarkedHappening → List LoneInstance → Type 0
ServesAll configs h ls =
    MayServe (parents_of configs) [] 0 (with_orders (map begun configs) []) h (with_orders ls [])

-- all instances together served all that happened; a parent builds on none
abbrev pub IsServed : List ConfigValue → List MarkedHappening → Type 0
IsServed configs h =
    AreParents (parents_of configs) × (ls : List LoneInstance) × ServesAll configs h ls

-- ---- what is known of it

-- what happened at the sockets, with so many instances that are told the time as soon as the clock
-- was read, and what happened at the runs, in one order
pub record HappenedTogether (count : ℕ) (sockets : List SocketEvent) (runs : List RunEvent)
    (h : List MarkedHappening) : Type 0 where
  pub at_sockets_so : filter_map timed_event h ≡ flat_map (with_times count) sockets
  pub at_runs_so : filter_map run_event h ≡ runs

-- so many events were marked; a count of 64 bits ends at the last of these numbers
abbrev pub WasServed : List ConfigValue → Option (List SocketEvent) → Option (List RunEvent) → ℕ →
    Type 0
WasServed configs sockets runs cut =
    IfSome sockets (λ s. IfSome runs (λ r.
    (h : List MarkedHappening) × HappenedTogether (length configs) s r h × IsServed configs h
    × (cut ≡ min (cuts h) (2 ^ 64 - 1))))
