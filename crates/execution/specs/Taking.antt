-- Steps of the code as plain values, and when they can be taken.
use Rattle.std.specs.Prelude.{◌≡◌, ◌+◌, List, [], ◌∷◌, length, map}
use Rattle.job_queue.specs.Jobs.{Jobs}
use Rattle.job_queue.specs.Changes.{CanHappen, jobs_after}
use Rattle.execution.specs.Job.{JobValue}
use Rattle.execution.specs.declared.steps.Step.{Step}
use Rattle.execution.specs.declared.steps.Step.TheVariants.{TimesOut, Ends, Starts}
use Rattle.execution.specs.Steps.{StepValue, times_out, ends, starts, change_of, jobs_after_steps}

abbrev pub step_shown : Step → StepValue
step_shown (TimesOut number operation) = times_out number operation.value.items
step_shown (Ends number operation) = ends number operation.value.items
step_shown (Starts number deadline operation) = starts number deadline operation.value.items

abbrev pub steps_shown : List Step → List StepValue
steps_shown steps = map step_shown steps

-- the limits let each step happen, one after another
abbrev pub CanTake : {J : Type 0} → List StepValue → Jobs J → Type 0
CanTake [] jobs = Unit {0}
CanTake (s ∷ ss) jobs =
    CanHappen (change_of s) jobs × CanTake ss (jobs_after (change_of s) jobs)

-- one job fewer runs after each of these steps, and the same jobs wait
pub record EndJobs (steps : List StepValue) (jobs : Jobs JobValue) : Type 0 where
  pub waiting : (jobs_after_steps steps jobs).waiting ≡ jobs.waiting
  pub count : length (jobs_after_steps steps jobs).running + length steps ≡ length jobs.running
