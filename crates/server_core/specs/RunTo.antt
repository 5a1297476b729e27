-- How far the instances of a server and their records have come.
use Rattle.std.specs.Prelude.{◌≡◌, ◌≢◌, ℕ, Bool, List, Option, Some, None}
use Rattle.std.specs.List.{slice_get}
use Rattle.served_instance.specs.StandsFor.{ServedState}
use Rattle.instance_core.specs.Visible.{Blob}
use Rattle.server_events.specs.Events.{EventValue, LoneEvent}
use Rattle.server_core.specs.Runs.{Run, FamilyRun}
use Rattle.server_core.specs.Marked.{IsRunStep}
use Rattle.server_core.specs.Records.{RecordValue, IsRecord}
use Rattle.server_core.specs.StandsFor.{StandsAt}

-- the record of this number is there and stands for this run
abbrev pub IsNotedAt : ℕ → List RecordValue → Run → Type 0
IsNotedAt i records r = (v : RecordValue) × (slice_get records i ≡ Some v) × IsRecord v r

-- the instance of this number and its record have come as far as this run
pub record HasRun (i : ℕ) (vs : List ServedState) (records : List RecordValue)
    (r : Run) : Type 0 where
  pub stands : StandsAt i vs r.lone
  pub noted : IsNotedAt i records r

-- .. as this run after the event, which may have been refused for want of memory
pub record HasStepped (parent : List Blob) (e : LoneEvent) (r : Run) (i : ℕ)
    (vs : List ServedState) (records : List RecordValue) : Type 0 where
  pub marked : Bool
  pub run : Run
  pub step : IsRunStep parent r e marked run
  pub there : HasRun i vs records run

-- the event took its instance, whose parent has these texts, a step on, and no other
pub record HasGoneOn (parent : List Blob) (e : EventValue) (r : Run) (i : ℕ)
    (vs : List ServedState) (records : List RecordValue) : Type 0 where
  pub own : e.instance ≡ i → HasStepped parent e.lone r i vs records
  pub other : e.instance ≢ i → HasRun i vs records r

-- an instance's parent, if it has one, has come as far as this run
abbrev pub HasParentRun : Option ℕ → List ServedState → List RecordValue → Option Run → Type 0
HasParentRun None vs records r = r ≡ None
HasParentRun (Some p) vs records None = ⊥
HasParentRun (Some p) vs records (Some r) = HasRun p vs records r

-- the instance of this number with this parent, and the parent, have come as far as this run
pub record HasFamilyRun (i : ℕ) (parent : Option ℕ) (vs : List ServedState)
    (records : List RecordValue) (f : FamilyRun) : Type 0 where
  pub own : HasRun i vs records f.own
  pub beside : HasParentRun parent vs records f.parent
