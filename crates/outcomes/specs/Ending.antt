-- What becomes of a job whose run gave an outcome (remote_execution.proto, ExecuteResponse and
-- ActionResult): how it ends, which blobs are admitted, and which result is stored.
use Rattle.std.specs.Prelude.{ℕ, ℤ, pos, Bool, false, List, [], nat_lt, option_map, unwrap_or, ◌==◌, ◌&&◌, map, Option, Some, None, if◌then◌else◌}
use Rattle.digest.specs.declared.Digest.{Digest}
use Rattle.instance_view.specs.Visible.{Blob}
use Rattle.action_cache.specs.Results.{LimitsValue, results_after_store}
use Rattle.cas_service.specs.Changes.{TextChange, Store}
use Rattle.actions.specs.Commands.{AskedOutput, asked_outputs, command_in}
use Rattle.execution_messages.specs.declared.fault.Fault.TheVariants.{QuotaExceeded, RunFailed}
use Rattle.execution_messages.specs.Progress.{EndValue, gives, fails}
use Rattle.run_calls.specs.Outcomes.{OutcomeValue, failed, exited}
use Rattle.outcomes.specs.Results.{CompletionValue, completion_of, fresh_bytes}
use Rattle.execution.specs.Job.{JobValue}

-- how a job ends, the blobs that are admitted, in order, and the result that is stored
pub record EndingValue : Type 0 where
  pub end_is : EndValue
  pub blobs : List Blob
  pub stored : Option (List ℕ)

-- the outputs of a run that failed, or whose outputs are not taken, are dropped
abbrev pub failure : EndingValue
failure = record { end_is = fails RunFailed []; blobs = []; stored = None }

abbrev pub too_much : EndingValue
too_much = record { end_is = fails QuotaExceeded []; blobs = []; stored = None }

-- the result of a run with status 0 is stored, where the action does not say otherwise
abbrev pub is_success : ℤ → Bool
is_success (pos n) = n == 0
is_success _ = false

abbrev pub stored_of : JobValue → ℤ → List ℕ → Option (List ℕ)
stored_of job code result = if is_success code && job.is_stored then Some result else None

-- .. whose blobs find room within the quota, all together, or none is admitted
abbrev pub completed : ℕ → List Blob → JobValue → ℤ → CompletionValue → EndingValue
completed quota visible job code c =
    if nat_lt quota (fresh_bytes visible c.blobs) then too_much
    else record { end_is = gives c.result; blobs = c.blobs; stored = stored_of job code c.result }

-- the outputs that the command of a job asks for
abbrev pub outputs_asked : JobValue → List AskedOutput
outputs_asked job = unwrap_or (option_map asked_outputs (command_in job.task.command)) []

abbrev pub completed_if : ℕ → List Blob → JobValue → ℤ → Option CompletionValue → EndingValue
completed_if quota visible job code None = failure
completed_if quota visible job code (Some c) = completed quota visible job code c

-- of an instance with this quota and these texts of its own
abbrev pub ending : ℕ → List Blob → JobValue → OutcomeValue → EndingValue
ending quota visible job failed = failure
ending quota visible job (exited x) =
    completed_if quota visible job x.code (completion_of job.action (outputs_asked job) x)

-- ---- what it changes

abbrev pub admission_of : Blob → TextChange
admission_of b = Store b.0 b.1

abbrev pub admissions : List Blob → List TextChange
admissions blobs = map admission_of blobs

-- the results with the one that is stored; one that is too long changes nothing
abbrev pub results_with : LimitsValue → Digest → Option (List ℕ) → List Blob → List Blob
results_with limits action None results = results
results_with limits action (Some text) results = results_after_store limits action text results
