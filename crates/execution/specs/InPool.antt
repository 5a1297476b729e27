-- Jobs of the code as plain values, with the texts that they find in a pool.
use Rattle.std.specs.Prelude.{ℕ, List, map}
use Rattle.blob_pool.specs.Slots.{Slots}
use Rattle.blob_pool.specs.Moves.{Holders}
use Rattle.instance_view.specs.Visible.{Blob}
use Rattle.instance_view.specs.Shown.{blobs_in, entry_holders, visible_in}
use Rattle.instance_view.specs.Sight.{SightValue}
use Rattle.job_queue.specs.Jobs.{Jobs, StageValue, waits, runs, has_ended}
use Rattle.job_queue.specs.Sums.{jobs_sum}
use Rattle.job_queue.specs.declared.queue.Running.{Running}
use Rattle.execution.specs.declared.job.Job.{Job}
use Rattle.execution.specs.declared.job.Task.{Task}
use Rattle.execution.specs.Job.{JobValue, TaskValue}
use Rattle.execution.specs.Keeping.{kept_entries}
use Rattle.execution.specs.Preparing.{task_read}
use Rattle.execution.specs.Execute.{ExecutionState}

abbrev pub task_in : Slots → Task → TaskValue
task_in p task = task_read task.action (blobs_in p (kept_entries task.texts.items))

abbrev pub job_in : Slots → Job → JobValue
job_in p job = record {
  action = job.task.action;
  timeout = job.timeout;
  is_stored = job.is_stored;
  task = task_in p job.task;
}

-- how often a job holds each slot
abbrev pub job_holders : Job → Holders
job_holders job = entry_holders (kept_entries job.task.texts.items)

abbrev pub waiting_in : Slots → (ℕ × Job) → (ℕ × JobValue)
waiting_in p w = (w.0, job_in p w.1)

abbrev pub running_in : Slots → (ℕ × Running Job) → (ℕ × Running JobValue)
running_in p r = (r.0, record { deadline = r.1.deadline; job = job_in p r.1.job })

abbrev pub jobs_in : Slots → Jobs Job → Jobs JobValue
jobs_in p jobs = record {
  next = jobs.next;
  waiting = map (waiting_in p) jobs.waiting;
  running = map (running_in p) jobs.running;
  ended = jobs.ended;
}

abbrev pub jobs_holders : Jobs Job → Holders
jobs_holders jobs k = jobs_sum (λ job. job_holders job k) jobs

-- what an instance with these texts, results and jobs is, whose parent has those texts
abbrev pub execution_in : Slots → SightValue → List Blob → Jobs Job → ExecutionState
execution_in p view results jobs = record {
  visible = visible_in p view.own;
  parent = visible_in p view.parent;
  results = results;
  jobs = jobs_in p jobs;
}

abbrev pub stage_in : Slots → StageValue Job → StageValue JobValue
stage_in p (waits job) = waits (job_in p job)
stage_in p (runs r) = runs (record { deadline = r.deadline; job = job_in p r.job })
stage_in p (has_ended operation) = has_ended operation
