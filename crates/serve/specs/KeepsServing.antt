-- What a server keeps while it serves. For the code alone: `Served.antt` says what comes of it.
use Rattle.std.specs.Prelude.{◌≡◌, ◌≢◌, ◌+◌, ◌-◌, ◌^◌, ◌≤◌, ◌<◌, ℕ, min, fold, Bool, true, false, List, map, length, Option, Some, IfSome}
use Rattle.std.specs.List.{slice_get}
use Rattle.execution.specs.declared.orders.Order.{Order}
use Rattle.execution.specs.Orders.{OrderValue}
use Rattle.instance_core.specs.Turns.{orders_meant}
use Rattle.instance_core.specs.Visible.{Blob}
use Rattle.server_events.specs.Configs.{ConfigValue, parents_of}
use Rattle.server_events.specs.Faults.{AreParents}
use Rattle.server_events.specs.Events.{EventValue, LoneEvent}
use Rattle.served_instance.specs.Lone.{LoneInstance}
use Rattle.served_instance.specs.StandsFor.{ServedState}
use Rattle.server_core.specs.Parents.{parent_texts}
use Rattle.server_core.specs.StandsFor.{ServerState, StandsAt, instance_at}
use Rattle.serve.specs.SocketEvents.{SocketEvent, moment_of}
use Rattle.serve.specs.RunEvents.{RunEvent, ordered, AddsRuns, WasBegun}
use Rattle.run_calls.specs.declared.task.RunKey.{RunKey}
use Rattle.served_instance.specs.declared.refusal.EventRefusal.{EventRefusal}
use Rattle.served_instance.specs.declared.refusal.EventRefusal.TheVariants.{NoMemory}
use Rattle.serve.specs.Happenings.{Happening, MarkedHappening, at_runs, cuts, moment_then}
use Rattle.serve.specs.declared.carrying.Counting.{Counting}
use Rattle.serve.specs.Served.{MayStep, ServesAll, HappenedTogether}

-- what happened and is not marked
abbrev pub unmarked : Happening → MarkedHappening
unmarked x = (x, false)

abbrev pub ran : RunEvent → MarkedHappening
ran r = (at_runs r, false)

-- what the clock showed last
abbrev pub moment_on : ℕ → MarkedHappening → ℕ
moment_on m x = moment_then m x.0

abbrev pub moment_behind : List MarkedHappening → ℕ
moment_behind h = fold moment_on 0 h

-- a count of 64 bits, which ends at the last of these numbers
abbrev pub most_counted : ℕ
most_counted = 2 ^ 64 - 1

abbrev pub IsCount : ℕ → ℕ → Type 0
IsCount n counted = counted ≡ min n most_counted

-- an instance of the server stands for what it has come to, and is not ahead of the clock
pub record StandsServing (m i : ℕ) (vs : List ServedState) (l : LoneInstance) : Type 0 where
  pub stands : StandsAt i vs l
  pub times : l.state.moment ≤ m

-- the instances of the server, one by one, stand for what they have come to together
pub record AllServing (configs : List ConfigValue) (h : List MarkedHappening)
    (vs : List ServedState) : Type 0 where
  pub ls : List LoneInstance
  pub serves : ServesAll configs h ls
  pub count : length ls ≡ length configs
  pub each : (i : ℕ) (l : LoneInstance) → slice_get ls i ≡ Some l
      → StandsServing (moment_behind h) i vs l

-- the server has the parents of these configurations
pub record HasParents (configs : List ConfigValue) (server : ServerState) : Type 0 where
  pub same : server.parents ≡ parents_of configs
  pub good : AreParents server.parents

pub record IsServerAt (configs : List ConfigValue) (sockets : List SocketEvent)
    (runs : List RunEvent) (counting : Counting) (m : ℕ) : Type 0 where
  pub h : List MarkedHappening
  pub together : HappenedTogether (length configs) sockets runs h
  pub counted : IsCount (cuts h) counting.cut
  pub parents : HasParents configs counting.server
  pub all : AllServing configs h counting.server.instances
  -- what the clock showed last
  pub moment : m ≡ moment_of sockets

abbrev pub IsServing : List ConfigValue → Option (List SocketEvent) → Option (List RunEvent) →
    Counting → ℕ → Type 0
IsServing configs sockets runs counting m =
    IfSome sockets (λ s. IfSome runs (λ r. IsServerAt configs s r counting m))

-- whatever so many instances a server served by what had happened, it serves by what has happened
-- now
abbrev pub KeepsServing : ℕ →
    Option (List SocketEvent) → Option (List RunEvent) → Counting → ℕ →
    Option (List SocketEvent) → Option (List RunEvent) → Counting → ℕ → Type 0
KeepsServing count old was before m new is after n =
    (configs : List ConfigValue) → length configs ≡ count →
    IsServing configs old was before m → IsServing configs new is after n

-- .. of which one has this number
abbrev pub KeepsServingAt : ℕ →
    Option (List SocketEvent) → Option (List RunEvent) → Counting → ℕ →
    Option (List SocketEvent) → Option (List RunEvent) → Counting → ℕ → Type 0
KeepsServingAt i old was before m new is after n =
    (configs : List ConfigValue) → i < length configs →
    IsServing configs old was before m → IsServing configs new is after n

-- .. by a run that was begun
abbrev pub KeepsServingBegun : RunKey →
    Option (List SocketEvent) → Option (List RunEvent) → Counting → ℕ →
    Option (List SocketEvent) → Option (List RunEvent) → Counting → ℕ → Type 0
KeepsServingBegun run old was before m new is after n =
    (configs : List ConfigValue) → WasBegun run was →
    IsServing configs old was before m → IsServing configs new is after n

-- the instance of this number stands for what the event may make of it, with these orders
pub record StandsAfter (i : ℕ) (parent : List Blob) (e : LoneEvent) (marked : Bool)
    (l : LoneInstance) (orders : List OrderValue) (vs : List ServedState) : Type 0 where
  pub now : LoneInstance
  pub may : MayStep parent e marked l now orders
  pub stands : StandsAt i vs now

abbrev pub is_for_memory : EventRefusal → Bool
is_for_memory NoMemory = true
is_for_memory refusal = false

-- one more is counted where it is marked
abbrev pub cut_after : ℕ → Bool → ℕ
cut_after n true = min (n + 1) most_counted
cut_after n false = n

-- an instance takes an event, all or a part of it, and its orders are carried out; no other changes
pub record TakesEvent (e : EventValue) (server next : Counting)
    (before after : Option (List RunEvent)) : Type 0 where
  pub orders : List OrderValue
  pub marked : Bool
  pub counted : next.cut ≡ cut_after server.cut marked
  pub carried : AddsRuns before after (map (ordered e.instance) orders)
  pub own : (l : LoneInstance) → StandsAt e.instance server.server.instances l
      → StandsAfter e.instance (parent_texts e.instance server.server) e.lone marked l
      orders next.server.instances
  pub others : (j : ℕ) → j ≢ e.instance
      → instance_at j next.server.instances ≡ instance_at j server.server.instances
  pub parents : next.server.parents ≡ server.server.parents

-- these orders of an instance are carried out, with what its jobs have
abbrev pub AreCarriedOut : ℕ → List ServedState → List Order →
    Option (List RunEvent) → Option (List RunEvent) → Type 0
AreCarriedOut i vs orders before after =
    (v : ServedState) → instance_at i vs ≡ Some v →
    AddsRuns before after (map (ordered i) (orders_meant v.state.jobs orders))
