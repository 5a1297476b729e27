-- The runs of a runner as what ran so far has left them. For the code alone: `Ran.antt` says what
-- comes of it.
use Rattle.std.specs.Prelude.{◌≡◌, true, List, [], ◌∷◌, Option, IfSome}
use Rattle.std.specs.List.{filter}
use Rattle.execution.specs.Job.{TaskValue}
use Rattle.run_calls.specs.declared.folder.Place.{Place}
use Rattle.run_calls.specs.declared.task.RunKey.{RunKey}
use Rattle.run_calls.specs.declared.task.Task.{Task}
use Rattle.run_calls.specs.Values.{place_shown}
use Rattle.run_calls.specs.Calls.{FolderCall, ProgramCall, RunCall, folder_calls, program_calls}
use Rattle.runner.specs.declared.stage.Run.{Run}
use Rattle.runner.specs.declared.stage.Stage.{Stage}
use Rattle.runner.specs.declared.stage.State.{State}
use Rattle.runner.specs.declared.stage.State.TheVariants.{Live, Over}
use Rattle.runner.specs.Begun.{HasReached}
use Rattle.runner.specs.Runs.{is_run_of}
use Rattle.serve.specs.RunEvents.{RunEvent}
use Rattle.job_runs.specs.Keys.{has_key}
use Rattle.job_runs.specs.Ran.{RunStep, Order, to_run, no_more, SoFar, so_far, place_of, AreOfJobs, AreRight, events_in, calls_in}
use Rattle.job_runs.specs.Tasks.{IsTaskOf}
use Rattle.job_runs.specs.Texts.{numbered_text}

abbrev pub own_runs : RunKey → List Run → List Run
own_runs key runs = filter (is_run_of key) runs

-- by all that was asked for it a run of this task has come to a stage
pub record IsAtStage (key : RunKey) (t : TaskValue) (calls : List RunCall) (place : Place)
    (stage : Stage) : Type 0 where
  pub same_place : place_shown place ≡ place_of key t
  pub task : Task
  pub of_task : IsTaskOf t task
  pub reached : HasReached (numbered_text t.texts) (place_shown place) task stage calls

abbrev pub IsLive : RunKey → Order → List RunCall → Place → Stage → Type 0
IsLive key (to_run t) calls place stage = IsAtStage key t calls place stage
IsLive key s calls place stage = ⊥

abbrev pub IsInState : RunKey → SoFar → Place → State → Type 0
IsInState key s place (Live stage) = IsLive key s.order s.calls place stage
IsInState key s place (Over e) = s.order ≡ no_more

-- nothing was asked for it yet, or nothing more is to be
abbrev pub IsIdle : Order → List RunCall → Type 0
IsIdle no_more calls = Unit {0}
IsIdle s calls = calls ≡ []

-- there is one run of a key at most, which is as this says
abbrev pub IsLinked : RunKey → SoFar → List Run → Type 0
IsLinked key s [] = IsIdle s.order s.calls
IsLinked key s (r ∷ []) = IsInState key s r.place r.state
IsLinked key s (r ∷ q ∷ rs) = ⊥

-- by what ran so far these are the runs, and of those that are to begin there is none yet
pub record AreRunning (runs : List Run) (to_begin : List RunKey) (f : List FolderCall)
    (p : List ProgramCall) (h : List RunEvent) : Type 0 where
  pub steps : List RunStep
  pub told_so : events_in steps ≡ h
  pub folders_so : folder_calls (calls_in steps) ≡ f
  pub programs_so : program_calls (calls_in steps) ≡ p
  pub right : AreRight [] steps
  pub linked : (key : RunKey) → IsLinked key (so_far key steps) (own_runs key runs)
  pub noted : (key : RunKey) → has_key key to_begin ≡ true → own_runs key runs ≡ []

-- where it is known what was asked of folders and of programs
abbrev pub Carry : List Run → List RunKey → Option (List FolderCall) → Option (List ProgramCall) →
    List RunEvent → Type 0
Carry runs to_begin f p h =
    IfSome f (λ fs. IfSome p (λ ps. AreOfJobs h → AreRunning runs to_begin fs ps h))
