-- Runs that are to begin, and are not noted one by one.
use Rattle.std.specs.Prelude.{◌≡◌, ◌≤◌, ◌<◌, ◌⊎◌, Option, Some, None}
use Rattle.run_calls.specs.declared.task.RunKey.{RunKey}
use Rattle.job_runs.specs.declared.span.Span.{Span}

-- a run was not given yet: it is the next of them, or comes behind that
abbrev pub IsFrom : RunKey → RunKey → Type 0
IsFrom at key =
    (at.instance < key.instance) ⊎ ((at.instance ≡ key.instance) × (at.job ≤ key.job))

-- a run is one of those that are still to be given
pub record IsIn (key : RunKey) (span : Span) : Type 0 where
  pub from_instance : span.least.instance ≤ key.instance
  pub to_instance : key.instance ≤ span.most.instance
  pub from_job : span.least.job ≤ key.job
  pub to_job : key.job ≤ span.most.job
  pub waits : IsFrom span.at key

abbrev pub IsAmong : RunKey → Option Span → Type 0
IsAmong key None = ⊥
IsAmong key (Some span) = IsIn key span
