-- How the runs of a server's jobs are those of a runner.
use Rattle.std.specs.Prelude.{◌≡◌, ◌⊎◌, ⊤, ℕ, zero, suc, List, [], ◌∷◌, ◌++◌, slice_get, Option, Some, None, Result, Ok, Err}
use Rattle.run_calls.specs.declared.outcome.Outcome.{Outcome}
use Rattle.execution.specs.Job.{TaskValue}
use Rattle.runner.specs.declared.fault.RunFault.{RunFault}
use Rattle.runner.specs.declared.fault.RunFault.TheVariants.{NoMemory}
use Rattle.run_calls.specs.declared.task.RunKey.{RunKey}
use Rattle.run_calls.specs.declared.task.Task.{Task}
use Rattle.runner.specs.declared.stage.Run.{Run}
use Rattle.run_calls.specs.Calls.{FolderCall, ProgramCall}
use Rattle.runner.specs.Runs.{IsAsked, IsKilled, IsOver, IsStarted}
use Rattle.server_events.specs.Configs.{ConfigValue}
use Rattle.serve.specs.declared.error_lines.Backlog.{Backlog}
use Rattle.serve.specs.FaultLines.{TellsAnswer}
use Rattle.job_runs.specs.Tasks.{IsTaskOf}
use Rattle.job_runs.specs.Texts.{numbered_text}

-- a run of this task was added
pub record IsBegun (run : RunKey) (task : TaskValue) (old new : List Run) : Type 0 where
  pub made : Task
  pub begun : Run
  pub of_task : IsTaskOf task made
  pub started : IsStarted run made begun
  pub added : new ≡ old ++ begun ∷ []

-- a run that was not there was begun with the task that is lent, and nothing is told of it yet; or
-- memory was refused, which is told, and none was begun. Where no task is lent none was begun
-- either: the job that it was noted for does not run
abbrev pub IsBegunIf : Option TaskValue → RunKey → Result (Option Outcome) RunFault →
    List Run → List Run → Type 0
IsBegunIf None run told old new = (told ≡ Ok None) × (new ≡ old)
IsBegunIf (Some task) run told old new =
    ((told ≡ Ok None) × IsBegun run task old new) ⊎ ((told ≡ Err NoMemory) × (new ≡ old))

-- a run was to be ended, whatever came of that
abbrev pub IsEnded : RunKey → List Run → List Run →
    Option (List FolderCall) → Option (List FolderCall) →
    Option (List ProgramCall) → Option (List ProgramCall) → Type 0
IsEnded run old new f_before f_now p_before p_now =
    (told : Result ⊤ RunFault) × IsKilled run told old new f_before f_now p_before p_now

-- that its folder is left, or nothing
abbrev pub end_answer : Result ⊤ RunFault → Result (Option Outcome) RunFault
end_answer (Ok x) = Ok None
end_answer (Err fault) = Err fault

-- the runner was asked, with the texts of the task that is lent, and what it answered is told; or
-- it was told to end the run, where no task is lent: the job that it was run for does not run
abbrev pub IsAnsweredFor : Option TaskValue → RunKey → Result (Option Outcome) RunFault →
    List Run → List Run → Option (List FolderCall) → Option (List FolderCall) →
    Option (List ProgramCall) → Option (List ProgramCall) → Type 0
IsAnsweredFor None run told old new f_before f_now p_before p_now =
    (ended : Result ⊤ RunFault) × IsKilled run ended old new f_before f_now p_before p_now
    × (told ≡ end_answer ended)
IsAnsweredFor (Some task) run told old new f_before f_now p_before p_now =
    IsAsked (numbered_text task.texts) run told old new f_before f_now p_before p_now

-- the run is over, or is to be
abbrev pub IsOnlyEnded : Option TaskValue → RunKey → List Run → Type 0
IsOnlyEnded None run runs = Unit {0}
IsOnlyEnded (Some task) run runs = IsOver run runs

-- ---- all runs

-- runs, what was asked for them, and the lines about them: those that were written, and what is
-- still to be
pub record Standing : Type 0 where
  pub runs : List Run
  pub folders : Option (List FolderCall)
  pub programs : Option (List ProgramCall)
  pub text : Option (List ℕ)
  pub backlog : Backlog

-- a run is killed at a moment, and where that answers a fault, that is a line
abbrev pub IsKilledAt : List ConfigValue → ℕ → RunKey → Standing → Standing → Type 0
IsKilledAt configs moment key old new =
    (told : Result ⊤ RunFault)
    × IsKilled key told old.runs new.runs old.folders new.folders old.programs new.programs
    × TellsAnswer configs moment key told old.text old.backlog new.text new.backlog

-- where there is a run it is killed
abbrev pub IsKilledIf : List ConfigValue → ℕ → Option Run → Standing → Standing → Type 0
IsKilledIf configs moment None old new = new ≡ old
IsKilledIf configs moment (Some run) old new = IsKilledAt configs moment run.place.run old new

-- of the first so many runs each is killed, the last first
abbrev pub AreKilled : List ConfigValue → ℕ → ℕ → Standing → Standing → Type 0
AreKilled configs moment zero old new = new ≡ old
AreKilled configs moment (suc place) old new =
    (mid : Standing) × IsKilledIf configs moment (slice_get old.runs place) old mid
    × AreKilled configs moment place mid new
