-- Runs in which some events were refused for want of memory: each of these, which are marked, did a
-- part of what it would have done (`Short`, served_instance); every other event did what it does
-- otherwise (`run_step`). To be read from the last definitions up.
use Rattle.std.specs.Prelude.{◌≡◌, ◌≢◌, ℕ, ◌+◌, Bool, true, false, List, [], ◌∷◌, ◌++◌, map, Option, Some, None}
use Rattle.std.specs.Option.{option_map}
use Rattle.instance_core.specs.Visible.{Blob}
use Rattle.server_events.specs.Events.{LoneEvent}
use Rattle.served_instance.specs.declared.refusal.EventRefusal.{EventRefusal}
use Rattle.served_instance.specs.declared.refusal.EventRefusal.TheVariants.{NoMemory}
use Rattle.served_instance.specs.Lone.{LoneInstance}
use Rattle.served_instance.specs.Refusals.{refusal_of}
use Rattle.served_instance.specs.Short.{Short}
use Rattle.served_instance.specs.StandsFor.{ServedState}
use Rattle.server_core.specs.Families.{Family, FamilyEvent, own_event, parent_event}
use Rattle.server_core.specs.Outputs.{InstanceOutputValue}
use Rattle.server_core.specs.Runs.{Run, FamilyRun, new_family_run, texts_of_parent, run_step, output_of_run}
use Rattle.server_core.specs.StandsFor.{StandsAt}

-- an event, and whether it is marked: memory was refused in it
abbrev pub MarkedEvent : Type 0
MarkedEvent = FamilyEvent × Bool

abbrev pub event_of : MarkedEvent → FamilyEvent
event_of e = e.0

-- there was no other reason to refuse the event; it was done in part, nothing was ordered, and it
-- is recorded
pub record IsShortStep (parent : List Blob) (r : Run) (e : LoneEvent) (q : Run) : Type 0 where
  pub accepted : refusal_of e r.lone ≡ None
  pub lone : Short parent e r.lone q.lone
  pub count : q.count ≡ r.count + 1
  pub orders : q.orders ≡ r.orders
  pub refusals : q.refusals ≡ r.refusals ++ (r.count + 1, NoMemory) ∷ []

-- a step of an instance's run, while its parent has these texts: a marked event is done in part,
-- any other as it is done otherwise
abbrev pub IsRunStep : List Blob → Run → LoneEvent → Bool → Run → Type 0
IsRunStep parent r e false q = q ≡ run_step parent r e
IsRunStep parent r e true q = IsShortStep parent r e q

-- a step of its parent's run
abbrev pub IsParentStep : Option Run → LoneEvent → Bool → Option Run → Type 0
IsParentStep None e marked q = q ≡ None
IsParentStep (Some r) e marked None = ⊥
IsParentStep (Some r) e marked (Some q) = IsRunStep [] r e marked q

abbrev pub IsFamilyStep : FamilyRun → MarkedEvent → FamilyRun → Type 0
IsFamilyStep f (own_event e, marked) g =
    IsRunStep (texts_of_parent f.parent) f.own e marked g.own × (g.parent ≡ f.parent)
IsFamilyStep f (parent_event e, marked) g =
    (g.own ≡ f.own) × IsParentStep f.parent e marked g.parent

-- these events, one after another, lead from the one run to the other
abbrev pub IsRun : FamilyRun → List MarkedEvent → FamilyRun → Type 0
IsRun f [] g = g ≡ f
IsRun f (e ∷ es) g = (k : FamilyRun) × IsFamilyStep f e k × IsRun k es g

-- a run of an instance and its parent by themselves over these events, of which some are marked
pub record MarkedRun (family : Family) (events : List FamilyEvent) : Type 0 where
  pub marked : List MarkedEvent
  pub run : FamilyRun
  pub same : map event_of marked ≡ events
  pub steps : IsRun (new_family_run family) marked run

-- what such a run gives of the instance, and of its parent; just the marked events of each are
-- recorded as refused for want of memory
pub record IsRunOutput (family : Family) (events : List FamilyEvent) (output : InstanceOutputValue)
    (parent : Option InstanceOutputValue) : Type 0 where
  pub came : MarkedRun family events
  pub gives : output ≡ output_of_run came.run.own
  pub parent_gives : parent ≡ option_map output_of_run came.run.parent

-- .. and it is given
pub record GivesRunOutput (family : Family) (events : List FamilyEvent)
    (given parent : Option InstanceOutputValue) : Type 0 where
  pub output : InstanceOutputValue
  pub there : given ≡ Some output
  pub runs : IsRunOutput family events output parent

-- the instance of this number stands for some state that the event leaves of l, while its parent
-- has these texts
pub record StandsShortAt (i : ℕ) (parent : List Blob) (e : LoneEvent) (l : LoneInstance)
    (vs : List ServedState) : Type 0 where
  pub left : LoneInstance
  pub short : Short parent e l left
  pub stands : StandsAt i vs left

-- this event is not recorded as refused for want of memory
abbrev pub IsNotForMemory : ℕ × EventRefusal → Type 0
IsNotForMemory x = x.1 ≢ NoMemory
