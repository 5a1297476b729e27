-- The task of a number stays the same, whatever becomes of the jobs.
use Rattle.std.proofs.Common.{◌≡◌, ℕ, List, Option, Some, None, refl, sym, ap, ◌∙◌}
use Rattle.std.specs.Prelude.{option_map}
use Rattle.job_queue.specs.Jobs.{Jobs, jobs_after_push, or_else, running_job, same_number}
use Rattle.job_queue.specs.Changes.{JobChange, jobs_after_all, open_job}
use Rattle.job_queue.specs.Order.{AreJobs}
use Rattle.std.specs.Map.{lookup}
use Rattle.job_queue.proofs.Same.{IsOnly, only-after-all, only-found, only-open, only-pushed}
use Rattle.execution.specs.Job.{JobValue, TaskValue}
use Rattle.execution.specs.Orders.{task_of}

-- a job that runs is open
running-open : (n : ℕ) (jobs : Jobs JobValue) (task : TaskValue) → task_of n jobs ≡ Some task →
    (job : JobValue) × (open_job n jobs ≡ Some job) × (job.task ≡ task)
running-open n jobs task is = go (running_job n jobs) refl where
  go : (o : Option JobValue) → running_job n jobs ≡ o → (job : JobValue) × (open_job n jobs ≡ Some job) × (job.task ≡ task)
  go None none = absurd (let no : None ≡ Some task = rw none at is in cc)
  go (Some job) some =
      let found : Some job.task ≡ Some task = rw some at is in
      (job, ap (λ (o : Option JobValue). or_else o (lookup (same_number n) jobs.waiting)) some, let same : job.task ≡ task = cc in same)

task-only : (n : ℕ) (job : JobValue) (jobs : Jobs JobValue) (task : TaskValue) → IsOnly n job jobs → task_of n jobs ≡ Some task →
    task ≡ job.task
task-only n job jobs task only is =
    let found = running-open n jobs task is in
    sym found.2 ∙ ap (λ (j : JobValue). j.task) (only-found n job found.0 jobs only found.1)

pub task-pushed : (job : JobValue) (changes : List (JobChange JobValue)) (jobs : Jobs JobValue) (task : TaskValue) → AreJobs jobs →
    task_of jobs.next (jobs_after_all changes (jobs_after_push job jobs)) ≡ Some task → task ≡ job.task
task-pushed job changes jobs task h is =
    task-only jobs.next job (jobs_after_all changes (jobs_after_push job jobs)) task
    (only-after-all jobs.next job changes (jobs_after_push job jobs) (only-pushed job jobs h)) is

pub task-same : (n : ℕ) (changes : List (JobChange JobValue)) (jobs : Jobs JobValue) (task later : TaskValue) → AreJobs jobs →
    task_of n jobs ≡ Some task → task_of n (jobs_after_all changes jobs) ≡ Some later → later ≡ task
task-same n changes jobs task later h is then =
    let found = running-open n jobs task is in
    task-only n found.0 (jobs_after_all changes jobs) later
    (only-after-all n found.0 changes jobs (only-open n found.0 jobs h found.1)) then ∙ found.2
