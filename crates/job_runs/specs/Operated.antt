-- Jobs that an operator ends, and runs whose outputs break a rule.
use Rattle.std.specs.Prelude.{◌≡◌, ◌⊎◌, true, List, Option, Some, None, IsSome, Result, Ok, Err}
use Rattle.run_calls.specs.declared.outcome.Outcome.{Outcome}
use Rattle.run_calls.specs.declared.outcome.Outcome.TheVariants.{Failed}
use Rattle.execution.specs.Job.{TaskValue}
use Rattle.runner.specs.declared.fault.RunFault.{RunFault}
use Rattle.run_calls.specs.declared.task.RunKey.{RunKey}
use Rattle.runner.specs.declared.stage.Run.{Run}
use Rattle.run_calls.specs.Calls.{FolderCall, ProgramCall}
use Rattle.runner.specs.Runs.{HasNone, is_run_of}
use Rattle.std.specs.List.{list_any}
use Rattle.job_runs.specs.Keys.{has_key}
use Rattle.job_runs.specs.OutputRules.{IsRefusal}
use Rattle.job_runs.specs.Runs.{IsAnsweredFor, IsBegunIf, IsEnded}

-- what is kept of runs and of those that are to begin, and what was asked for them
pub record RunsThen : Type 0 where
  pub runs : List Run
  pub to_begin : List RunKey
  pub folders : Option (List FolderCall)
  pub programs : Option (List ProgramCall)

-- the run of a job that is lent its task, and so runs, is told as failed, and is ended; where it
-- was only to begin, nothing is to be ended
pub record IsFailedByOperator (lent : Option TaskValue) (run : RunKey)
    (told : Result (Option Outcome) RunFault) (old new : RunsThen) : Type 0 where
  pub job_runs : IsSome lent
  pub failed : told ≡ Ok (Some Failed)
  pub ended : ((has_key run old.to_begin ≡ true) × (new.runs ≡ old.runs)
      × (new.folders ≡ old.folders) × (new.programs ≡ old.programs))
      ⊎ IsEnded run old.runs new.runs old.folders new.folders old.programs new.programs

-- a run that is not there is begun with the task that is lent, and nothing else is asked for; one
-- that is there is asked, or ended where no task is lent
pub record IsAskedAsEver (lent : Option TaskValue) (run : RunKey)
    (told : Result (Option Outcome) RunFault) (old new : RunsThen) : Type 0 where
  pub begun : HasNone run old.runs → IsBegunIf lent run told old.runs new.runs
      × (new.folders ≡ old.folders) × (new.programs ≡ old.programs)
  pub answered : list_any (is_run_of run) old.runs ≡ true → IsAnsweredFor lent run told
      old.runs new.runs old.folders new.folders old.programs new.programs

-- what a run gave breaks a rule of outputs, or memory was refused to see that, and a fault is told
-- in its place
pub record IsRefused (lent : Option TaskValue) (run : RunKey)
    (told : Result (Option Outcome) RunFault) (old new : RunsThen) : Type 0 where
  pub answer : Result (Option Outcome) RunFault
  pub fault : RunFault
  pub asked : IsAskedAsEver lent run answer old new
  pub refusal : IsRefusal lent answer (Some fault)
  pub told_so : told ≡ Err fault

-- what is told of a run is its own, which breaks no rule; or a fault, where it breaks one; or that
-- it failed, where an operator ended its job
abbrev pub IsAskedOrFailed : Option TaskValue → RunKey → Result (Option Outcome) RunFault →
    RunsThen → RunsThen → Type 0
IsAskedOrFailed lent run told old new =
    (IsAskedAsEver lent run told old new × IsRefusal lent told None)
    ⊎ (IsRefused lent run told old new ⊎ IsFailedByOperator lent run told old new)
