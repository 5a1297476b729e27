-- An instance: its name, its quota in bytes, how many actions it may run at once, the numbers that
-- an operator chose for it, the moment of what happens to it in milliseconds, its texts (the most
-- recently used first), its unfinished uploads, its results of actions (the most recently used
-- first), its jobs and its calls in course.
use Rattle.std.specs.Prelude.{ℕ, ◌≤◌, List, [], ◌++◌, length}
use Rattle.std.specs.List.{AllByRecursion, IsDistinct}
use Rattle.digest.specs.Naming.{Names}
use Rattle.std.specs.Map.{keys_of}
use Rattle.instance_view.specs.Visible.{Blob}
use Rattle.quota_evict.specs.Within.{AreBlobsWithin, most_stored_bytes}
use Rattle.uploads.specs.Uploads.{UploadList, AreUploadsWithin}
use Rattle.tree_calls.specs.Complete.{AreResultsWithin}
use Rattle.job_queue.specs.Jobs.{Jobs, no_jobs}
use Rattle.job_queue.specs.Order.{AreJobs}
use Rattle.job_queue.specs.declared.queue.TheConstants.{MOST_RUNNING}
use Rattle.execution.specs.Job.{JobValue}
use Rattle.instance_core.specs.Jobs.{AreWhole, AreToldShortly}
use Rattle.instance_core.specs.Calls.{Calls, same_call, KeepShort}
pub use Rattle.instance_limits.specs.Limits.{LimitsValue, IsLimits}

pub record InstanceState : Type 0 where
  pub name : List ℕ
  pub quota : ℕ
  pub slots : ℕ
  pub limits : LimitsValue
  pub moment : ℕ
  pub visible : List Blob
  -- what the instance's parent has, while an event is carried out
  pub parent : List Blob
  pub uploads : UploadList
  pub results : List Blob
  pub jobs : Jobs JobValue
  pub calls : Calls

-- at first there are no texts, no uploads, no results, no jobs and no calls
abbrev pub new_instance : List ℕ → ℕ → ℕ → LimitsValue → InstanceState
new_instance name quota slots limits = record {
  name = name;
  quota = quota;
  slots = slots;
  limits = limits;
  moment = 0;
  visible = [];
  parent = [];
  uploads = [];
  results = [];
  jobs = no_jobs;
  calls = [];
}

abbrev pub at_moment : ℕ → InstanceState → InstanceState
at_moment moment s = record s { moment = moment }

-- the instance reads these texts, too
abbrev pub seeing : List Blob → InstanceState → InstanceState
seeing parent s = record s { parent = parent }

-- what it sees: its own texts, and those that its parent has besides
abbrev pub seen : InstanceState → List Blob
seen s = s.visible ++ s.parent

-- the limits that an instance keeps
pub record IsInstanceWithin (s : InstanceState) : Type 0 where
  pub quota : s.quota ≤ most_stored_bytes
  pub limits : IsLimits s.limits
  pub texts : AreBlobsWithin s.limits.blobs s.quota s.visible
  pub uploads : AreUploadsWithin s.quota s.uploads
  pub results : AreResultsWithin s.limits s.results
  -- no more jobs run than there are slots, of which there are no more than jobs may run
  pub slots : s.slots ≤ MOST_RUNNING
  pub jobs : AreJobs s.jobs
  pub running : length s.jobs.running ≤ s.slots
  -- each that waits or runs has what it needs, and of each that has ended the last Operation is
  -- kept
  pub whole : AreWhole s.jobs
  pub told : AreToldShortly s.jobs
  -- no call stands twice
  pub calls : IsDistinct same_call (keys_of s.calls)
  pub messages : KeepShort s.calls
  -- what it reads of its parent is what its digests say
  pub parent : AllByRecursion (λ (b : Blob). Names b.0 b.1) s.parent
