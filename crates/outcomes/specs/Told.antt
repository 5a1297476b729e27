-- Jobs, answers and steps of which all that is told is short.
use Rattle.std.specs.Prelude.{ℕ, List}
use Rattle.std.specs.List.{AllByRecursion}
use Rattle.job_queue.specs.Jobs.{Jobs}
use Rattle.job_queue.specs.declared.queue.Running.{Running}
use Rattle.execution.specs.Execute.{Does, ExecuteAnswer, ExecuteChange, Keeps, Pushes, Uses, done, queued}
use Rattle.execution.specs.Job.{JobValue}
use Rattle.execution.specs.Orders.{told}
use Rattle.execution.specs.Steps.{StepValue}
use Rattle.execution.specs.Waiting.{WaitAnswer, has_told, watches}
use Rattle.outcomes.specs.Short.{HasForm, IsShort}

-- a job that waits, one that runs, and the Operation of one that has ended, under their numbers
abbrev pub Waits : Type 0
Waits = ℕ × JobValue

abbrev pub Runs : Type 0
Runs = ℕ × Running JobValue

abbrev pub Ended : Type 0
Ended = ℕ × List ℕ

-- the digests of the actions have their form, and each Operation that is kept is short
pub record AreTold (jobs : Jobs JobValue) : Type 0 where
  pub waiting : AllByRecursion (λ (w : Waits). HasForm w.1.action) jobs.waiting
  pub running : AllByRecursion (λ (r : Runs). HasForm r.1.job.action) jobs.running
  pub ended : AllByRecursion (λ (e : Ended). IsShort e.1) jobs.ended

-- a change that keeps them so
abbrev pub IsToldChange : ExecuteChange → Type 0
IsToldChange (Uses d) = Unit {0}
IsToldChange (Keeps results) = Unit {0}
IsToldChange (Does operation) = IsShort operation
IsToldChange (Pushes job) = HasForm job.action

-- ---- answers and steps

abbrev pub IsShortExecuteAnswer : ExecuteAnswer → Type 0
IsShortExecuteAnswer (done operation) = IsShort operation
IsShortExecuteAnswer (queued n operation) = IsShort operation

abbrev pub IsShortWaitAnswer : WaitAnswer → Type 0
IsShortWaitAnswer (has_told operation) = IsShort operation
IsShortWaitAnswer (watches n operation) = IsShort operation

-- what those are told who watch
abbrev pub AreToldShortly : List StepValue → Type 0
AreToldShortly steps = AllByRecursion (λ s. IsShort (told s).operation) steps
