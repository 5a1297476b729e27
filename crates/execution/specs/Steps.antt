-- What happens to jobs at an event, all at once: some end, and then the least-numbered that wait
-- start, as many as there are slots for.
use Rattle.std.specs.Prelude.{ℕ, ◌+◌, ◌-◌, zero, suc, List, [], ◌∷◌, ◌++◌, length, nat_le, Option, Some, None, if◌then◌else◌}
use Rattle.std.specs.List.{filter_map}
use Rattle.job_queue.specs.Jobs.{Jobs, running_job}
use Rattle.job_queue.specs.Changes as Queue
use Rattle.job_queue.specs.Changes.{JobChange, jobs_after}
use Rattle.job_queue.specs.declared.queue.Running.{Running}
use Rattle.execution_messages.specs.declared.fault.Fault.TheVariants.{TimedOut}
use Rattle.execution_messages.specs.Progress.{EndValue, fails, completed_text, executing_text}
use Rattle.execution.specs.Job.{JobValue}

pub data StepValue : Type 0 where
  -- the job that runs under a number comes to its deadline, and ends with this Operation
  times_out : ℕ → List ℕ → StepValue
  -- the job that runs under a number ends with this Operation
  ends : ℕ → List ℕ → StepValue
  -- the least-numbered job that waits, under this number, runs until a deadline; its Operation is
  -- now this
  starts : ℕ → ℕ → List ℕ → StepValue

abbrev pub change_of : {J : Type 0} → StepValue → JobChange J
change_of (times_out n operation) = Queue.ends n operation
change_of (ends n operation) = Queue.ends n operation
change_of (starts n deadline operation) = Queue.starts deadline

abbrev pub jobs_after_steps : {J : Type 0} → List StepValue → Jobs J → Jobs J
jobs_after_steps [] jobs = jobs
jobs_after_steps (s ∷ ss) jobs = jobs_after_steps ss (jobs_after (change_of s) jobs)

-- ---- which steps

-- the jobs that run and whose deadline a moment has reached time out, in rising number
abbrev pub due_of : ℕ → (ℕ × Running JobValue) → Option StepValue
due_of moment r =
    if nat_le r.1.deadline moment
    then Some (times_out r.0 (completed_text r.0 r.1.job.action (fails TimedOut []))) else None

abbrev pub timings_out : ℕ → List (ℕ × Running JobValue) → List StepValue
timings_out moment running = filter_map (due_of moment) running

-- a job that waits starts at a moment; it may run for its timeout from then on
abbrev pub start_of : ℕ → (ℕ × JobValue) → StepValue
start_of moment w = starts w.0 (moment + w.1.timeout) (executing_text w.0 w.1.action)

-- so many of those that wait start, the first first
abbrev pub starts_of : ℕ → ℕ → List (ℕ × JobValue) → List StepValue
starts_of zero moment ws = []
starts_of (suc most) moment [] = []
starts_of (suc most) moment (w ∷ ws) = start_of moment w ∷ starts_of most moment ws

-- as many as there are slots for
abbrev pub starts_at : ℕ → ℕ → Jobs JobValue → List StepValue
starts_at slots moment jobs = starts_of (slots - length jobs.running) moment jobs.waiting

abbrev pub then_starts : ℕ → ℕ → List StepValue → Jobs JobValue → List StepValue
then_starts slots moment steps jobs =
    steps ++ starts_at slots moment (jobs_after_steps steps jobs)

-- ---- at each kind of event, where so many jobs may run at a time

-- a Tick at a moment
abbrev pub tick_steps : ℕ → ℕ → Jobs JobValue → List StepValue
tick_steps slots moment jobs = then_starts slots moment (timings_out moment jobs.running) jobs

-- the outcome of the job that runs under a number, which ends so
abbrev pub ending_of : ℕ → EndValue → Option JobValue → List StepValue
ending_of n end_is None = []
ending_of n end_is (Some job) = ends n (completed_text n job.action end_is) ∷ []

abbrev pub end_steps : ℕ → ℕ → ℕ → EndValue → Jobs JobValue → List StepValue
end_steps slots moment n end_is jobs =
    then_starts slots moment (ending_of n end_is (running_job n jobs)) jobs

-- received bytes
abbrev pub start_steps : ℕ → ℕ → Jobs JobValue → List StepValue
start_steps slots moment jobs = then_starts slots moment [] jobs
