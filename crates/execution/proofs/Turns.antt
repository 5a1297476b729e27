-- The steps of an event: some jobs end, and others start.
use Rattle.std.proofs.Common.{◌≡◌, ℕ, ◌≤◌, ◌⊎◌, List, [], ◌∷◌, ◌++◌, length, refl, arith}
use Rattle.job_queue.specs.Jobs.{Jobs}
use Rattle.job_queue.specs.Changes.{jobs_after}
use Rattle.job_queue.specs.Order.{AreJobs}
use Rattle.job_queue.specs.declared.queue.TheConstants.{MOST_RUNNING}
use Rattle.execution.specs.Job.{JobValue}
use Rattle.execution.specs.Steps.{StepValue, change_of, jobs_after_steps, starts_at, then_starts}
use Rattle.execution.specs.Taking.{CanTake}
use Rattle.execution.proofs.Starts.{starts-keep-all, starts-can-all, starts-few-all, starts-fill-all}
use Rattle.execution.proofs.Timings.{End}

pub steps-append : (a b : List StepValue) (jobs : Jobs JobValue) →
    jobs_after_steps (a ++ b) jobs ≡ jobs_after_steps b (jobs_after_steps a jobs)
steps-append [] b jobs = refl
steps-append (s ∷ a) b jobs = steps-append a b _

can-append : (a b : List StepValue) (jobs : Jobs JobValue) → CanTake a jobs → CanTake b (jobs_after_steps a jobs) → CanTake (a ++ b) jobs
can-append [] b jobs h g = g
can-append (s ∷ a) b jobs h g = (h.0, can-append a b (jobs_after (change_of s) jobs) h.1 g)

pub turn-keeps : (slots moment : ℕ) (ends : List StepValue) (jobs : Jobs JobValue) → slots ≤ MOST_RUNNING → End ends jobs →
    AreJobs (jobs_after_steps (then_starts slots moment ends jobs) jobs)
turn-keeps slots moment ends jobs few e =
    let after : Jobs JobValue = jobs_after_steps ends jobs in
    rw (steps-append ends (starts_at slots moment after) jobs) (starts-keep-all slots moment after few e.jobs_are)

pub turn-can : (slots moment : ℕ) (ends : List StepValue) (jobs : Jobs JobValue) → slots ≤ MOST_RUNNING → End ends jobs →
    CanTake (then_starts slots moment ends jobs) jobs
turn-can slots moment ends jobs few e =
    let after : Jobs JobValue = jobs_after_steps ends jobs in
    can-append ends (starts_at slots moment after) jobs e.can (starts-can-all slots moment after few e.jobs_are)

pub turn-few : (slots moment : ℕ) (ends : List StepValue) (jobs : Jobs JobValue) → length jobs.running ≤ slots → End ends jobs →
    length (jobs_after_steps (then_starts slots moment ends jobs) jobs).running ≤ slots
turn-few slots moment ends jobs h e =
    let after : Jobs JobValue = jobs_after_steps ends jobs in
    let count = e.fewer.count in
    rw (steps-append ends (starts_at slots moment after) jobs) (starts-few-all slots moment after (omega (arith, count, h)))

pub turn-fills : (slots moment : ℕ) (ends : List StepValue) (jobs : Jobs JobValue) → let after =
    jobs_after_steps (then_starts slots moment ends jobs) jobs in (slots ≤ length after.running) ⊎ (length after.waiting ≡ 0)
turn-fills slots moment ends jobs =
    let after : Jobs JobValue = jobs_after_steps ends jobs in
    rw (steps-append ends (starts_at slots moment after) jobs) (starts-fill-all slots moment after)
