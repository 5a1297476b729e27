-- What an instance keeps of its own: of each text its digest, and the slot where a pool that it
-- shares with other instances has the text; of each result its bytes; of each job what it needs,
-- and the slots of the texts that it keeps.
use Rattle.std.specs.Prelude.{◌≡◌, ◌≤◌, ◌<◌, ◌+◌, ◌^◌, ℕ, List, []}
use Rattle.blob_pool.specs.Slots.{Slots, count_at}
use Rattle.blob_pool.specs.Moves.{Holders}
use Rattle.instance_view.specs.Visible.{Blob}
use Rattle.instance_view.specs.Shown.{ViewValue, visible_in, holders}
use Rattle.uploads.specs.Uploads.{UploadList}
use Rattle.job_queue.specs.Jobs.{Jobs}
use Rattle.execution.specs.InPool.{jobs_in, jobs_holders}
use Rattle.execution.specs.declared.job.Job.{Job}
use Rattle.instance_core.specs.Calls.{Calls}
use Rattle.instance_core.specs.State.{InstanceState, IsInstanceWithin, LimitsValue, seeing}
use Rattle.std.specs.List.{AllByRecursion}
use Rattle.digest.specs.Naming.{Names}

pub record InstanceSlots : Type 0 where
  pub name : List ℕ
  pub quota : ℕ
  pub slots : ℕ
  pub limits : LimitsValue
  pub moment : ℕ
  pub view : ViewValue
  pub uploads : UploadList
  pub results : List Blob
  pub jobs : Jobs Job
  pub calls : Calls

-- the instance, with the texts that its entries find in a pool
abbrev pub state_in : Slots → InstanceSlots → InstanceState
state_in p i = record {
  name = i.name;
  quota = i.quota;
  slots = i.slots;
  limits = i.limits;
  moment = i.moment;
  visible = visible_in p i.view;
  parent = [];
  uploads = i.uploads;
  results = i.results;
  jobs = jobs_in p i.jobs;
  calls = i.calls;
}

-- the instance, which reads what the pool has of its parent's texts
abbrev pub state_beside : Slots → ViewValue → InstanceSlots → InstanceState
state_beside p parent i = seeing (visible_in p parent) (state_in p i)

-- how often the instance holds each slot of the pool: its blobs do, and its jobs that wait or run
abbrev pub holders_of_instance : InstanceSlots → Holders
holders_of_instance i k = holders i.view k + jobs_holders i.jobs k

-- the pool counts what its parent holds beside what it holds, and its parent's texts are what their
-- digests say
pub record IsBeside (p : Slots) (parent : ViewValue) (i : InstanceSlots) : Type 0 where
  pub counted : (k : ℕ) → holders_of_instance i k + holders parent k ≤ count_at p k
  pub named : AllByRecursion (λ (b : Blob). Names b.0 b.1) (visible_in p parent)

-- what it was configured with stays: its name, its quota, how many actions it runs at once, and the
-- numbers that were chosen for it
abbrev pub KeepsConfig : InstanceSlots → InstanceSlots → Type 0
KeepsConfig old new =
    (new.name ≡ old.name) × (new.quota ≡ old.quota) × (new.slots ≡ old.slots)
    × (new.limits ≡ old.limits)

-- the pool counts the instance among its holders, and the instance keeps its limits
pub record IsInstanceInPool (p : Slots) (i : InstanceSlots) : Type 0 where
  pub counted : (k : ℕ) → holders_of_instance i k ≤ count_at p k
  -- but for it there are fewer than 2^125 and some holders of any slot
  pub others : (k : ℕ) → count_at p k < holders_of_instance i k + 2 ^ 125 + 2 ^ 124
  pub within : IsInstanceWithin (state_in p i)

-- .. some pool does
pub record IsKeptSomewhere (i : InstanceSlots) : Type 0 where
  pub pool : Slots
  pub kept : IsInstanceInPool pool i
