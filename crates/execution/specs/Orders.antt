-- What is ordered of whoever runs jobs, and what those are told who watch them: both follow from
-- the steps of an event.
use Rattle.std.specs.Prelude.{◌≡◌, ℕ, Bool, true, false, List, [], ◌∷◌, Option, Some, None, option_map}
use Rattle.std.specs.List.{filter_map}
use Rattle.job_queue.specs.Jobs.{Jobs, running_job}
use Rattle.execution.specs.Job.{JobValue, TaskValue}
use Rattle.execution.specs.Steps.{StepValue, times_out, ends, starts, jobs_after_steps}

pub data OrderValue : Type 0 where
  -- the job of a number is to be run, which has this task
  start : ℕ → TaskValue → OrderValue
  -- the run of the job of a number is to be ended
  kill : ℕ → OrderValue

abbrev pub task_of : ℕ → Jobs JobValue → Option TaskValue
task_of n jobs = option_map (λ job. job.task) (running_job n jobs)

-- the order of a step, where these are the jobs after the event
abbrev pub order_of : Jobs JobValue → StepValue → Option OrderValue
order_of after (times_out n operation) = Some (kill n)
order_of after (ends n operation) = None
order_of after (starts n deadline operation) = option_map (start n) (task_of n after)

abbrev pub orders_of : List StepValue → Jobs JobValue → List OrderValue
orders_of steps jobs = filter_map (order_of (jobs_after_steps steps jobs)) steps

-- an order to run the job of a number, with the task of the job that runs under it then
abbrev pub IsStart : Jobs JobValue → ℕ → OrderValue → Type 0
IsStart after n order = (task : TaskValue) × (task_of n after ≡ Some task) × (order ≡ start n task)

-- in the order of the steps each job that times out is to be ended, and each that starts to be run,
-- and nothing else is ordered
abbrev pub AreOrdered : Jobs JobValue → List StepValue → List OrderValue → Type 0
AreOrdered after [] [] = Unit {0}
AreOrdered after [] (o ∷ os) = ⊥
AreOrdered after (times_out n operation ∷ ss) [] = ⊥
AreOrdered after (times_out n operation ∷ ss) (o ∷ os) = (o ≡ kill n) × AreOrdered after ss os
AreOrdered after (ends n operation ∷ ss) os = AreOrdered after ss os
AreOrdered after (starts n deadline operation ∷ ss) [] = ⊥
AreOrdered after (starts n deadline operation ∷ ss) (o ∷ os) =
    IsStart after n o × AreOrdered after ss os

-- the number that is watched, the Operation that is told, and whether it is the last
pub record ToldValue : Type 0 where
  pub number : ℕ
  pub operation : List ℕ
  pub is_last : Bool

abbrev pub told : StepValue → ToldValue
told (times_out n operation) = record { number = n; operation = operation; is_last = true }
told (ends n operation) = record { number = n; operation = operation; is_last = true }
told (starts n deadline operation) =
    record { number = n; operation = operation; is_last = false }
