-- What happens at the runs of jobs.
use Rattle.std.specs.Prelude.{◌≡◌, ◌⊎◌, ℕ, List, [], ◌∷◌, ◌++◌, Option, Some, None, IfSome, Result, Ok, Err}
use Rattle.std.specs.Option.{option_map}
use Rattle.run_calls.specs.declared.outcome.Outcome.{Outcome}
use Rattle.run_calls.specs.Outcomes.{OutcomeValue, failed}
use Rattle.run_calls.specs.Shown.{outcome_shown}
use Rattle.runner.specs.declared.fault.RunFault.{RunFault}
use Rattle.runner.specs.declared.fault.RunFault.TheVariants.{Left}
use Rattle.run_calls.specs.declared.task.RunKey.{RunKey}
use Rattle.execution.specs.Job.{TaskValue}
use Rattle.execution.specs.Orders.{OrderValue, start}
use Rattle.server_core.specs.declared.server.LentTask.{LentTask}
use Rattle.server_core.specs.Lent.{lent_shown}

-- an order of the instance of a number was carried out; the run of a job of it was lent this task
-- with its texts, or none; or that run gave an outcome
pub data RunEvent : Type 0 where
  ordered : ℕ → OrderValue → RunEvent
  lent : ℕ → ℕ → Option TaskValue → RunEvent
  gave : ℕ → ℕ → OutcomeValue → RunEvent

-- the outcome that a run gave, if any
abbrev pub gave_events : RunKey → Option Outcome → List RunEvent
gave_events run None = []
gave_events run (Some o) = gave run.instance run.job (outcome_shown o) ∷ []

-- a fault is the outcome of a job that failed; that its folder is left is none, as its job has
-- ended
abbrev pub fault_events : RunKey → RunFault → List RunEvent
fault_events run Left = []
fault_events run fault = gave run.instance run.job failed ∷ []

-- what a question gave, by its answer
abbrev pub outcome_events : RunKey → Result (Option Outcome) RunFault → List RunEvent
outcome_events run (Ok o) = gave_events run o
outcome_events run (Err fault) = fault_events run fault

-- what a question adds: a task is lent with it, or none
abbrev pub asked_events : RunKey → Option LentTask → Result (Option Outcome) RunFault →
    List RunEvent
asked_events run task answer =
    lent run.instance run.job (option_map lent_shown task) ∷ outcome_events run answer

-- a run, and the fault that it answered
abbrev pub FaultValue : Type 0
FaultValue = RunKey × RunFault

-- the fault that a run answered, if it did
abbrev pub faults_of : {A : Type 0} → RunKey → Result A RunFault → List FaultValue
faults_of run (Ok answer) = []
faults_of run (Err fault) = (run, fault) ∷ []

-- the run of a job was begun
pub record IsBegun (run : RunKey) (h : List RunEvent) : Type 0 where
  pub task : TaskValue
  pub before : List RunEvent
  pub after : List RunEvent
  pub whole : h ≡ before ++ ordered run.instance (start run.job task) ∷ after

-- .. where it is known what happened
abbrev pub WasBegun : RunKey → Option (List RunEvent) → Type 0
WasBegun run known = IfSome known (IsBegun run)

-- this happened next
abbrev pub AddsAllRuns : Option (List RunEvent) → Option (List RunEvent) → List RunEvent → Type 0
AddsAllRuns before after more = after ≡ option_map (λ h. h ++ more) before

-- where it is known then what happened, it was known before, and this happened next
abbrev pub AddsRuns : Option (List RunEvent) → Option (List RunEvent) → List RunEvent → Type 0
AddsRuns before after more = (after ≡ None) ⊎ AddsAllRuns before after more

-- whatever list stood for it before, with these events it stands for it afterwards
abbrev pub CarriesRuns : (List RunEvent → Type 0) → (List RunEvent → Type 0) → List RunEvent →
    Type 0
CarriesRuns old new more = (h : List RunEvent) → old h → new (h ++ more)
