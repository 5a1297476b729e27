-- Jobs that start one after another.
use Rattle.std.proofs.Common.{◌≡◌, ℕ, zero, suc, ◌+◌, ◌-◌, ◌≤◌, ◌⊎◌, inl, inr, List, [], ◌∷◌, ◌++◌, length, refl, length-append, arith}
use Rattle.job_queue.specs.Jobs.{Jobs}
use Rattle.job_queue.specs.Order.{AreJobs}
use Rattle.job_queue.specs.declared.queue.TheConstants.{MOST_RUNNING}
use Rattle.job_queue.proofs.Keeping.{after-start}
use Rattle.execution.specs.Job.{JobValue}
use Rattle.execution.specs.Steps.{jobs_after_steps, starts_of, starts_at}
use Rattle.execution.specs.Taking.{CanTake}

abbrev waiting_with : Jobs JobValue → List (ℕ × JobValue) → Jobs JobValue
waiting_with jobs ws = record jobs { waiting = ws }

-- a job runs behind the others
abbrev with_running : Jobs JobValue → ℕ × JobValue → ℕ → Jobs JobValue
with_running jobs w moment = record jobs { running = jobs.running ++ (w.0, record { deadline = moment + w.1.timeout; job = w.1 }) ∷ [] }

longer : (jobs : Jobs JobValue) (w : ℕ × JobValue) (moment : ℕ) → length (with_running jobs w moment).running ≡ length jobs.running + 1
longer jobs w moment = length-append jobs.running ((w.0, record { deadline = moment + w.1.timeout; job = w.1 }) ∷ [])

starts-keep : (most moment : ℕ) (ws : List (ℕ × JobValue)) (jobs : Jobs JobValue) → most + length jobs.running ≤ MOST_RUNNING →
    AreJobs (waiting_with jobs ws) → AreJobs (jobs_after_steps (starts_of most moment ws) (waiting_with jobs ws))
starts-keep zero moment ws jobs few h = h
starts-keep (suc most) moment [] jobs few h = h
starts-keep (suc most) moment (w ∷ ws) jobs few h =
    let more = longer jobs w moment in
    starts-keep most moment ws (with_running jobs w moment) (omega arith)
    (after-start (moment + w.1.timeout) (waiting_with jobs (w ∷ ws)) h (omega arith))

-- the most that may run is no smaller, or nothing starts
few-run : (slots running most : ℕ) → slots ≤ most → running ≤ most → (slots - running) + running ≤ most
few-run slots running most few h = omega arith

pub starts-keep-all : (slots moment : ℕ) (jobs : Jobs JobValue) → slots ≤ MOST_RUNNING → AreJobs jobs →
    AreJobs (jobs_after_steps (starts_at slots moment jobs) jobs)
starts-keep-all slots moment jobs few h = starts-keep (slots - length jobs.running) moment jobs.waiting jobs
    (few-run slots (length jobs.running) MOST_RUNNING few h.few_running) h

starts-can : (most moment : ℕ) (ws : List (ℕ × JobValue)) (jobs : Jobs JobValue) → most + length jobs.running ≤ MOST_RUNNING →
    CanTake (starts_of most moment ws) (waiting_with jobs ws)
starts-can zero moment ws jobs few = tt
starts-can (suc most) moment [] jobs few = tt
starts-can (suc most) moment (w ∷ ws) jobs few =
    let more = longer jobs w moment in
    (omega arith, starts-can most moment ws (with_running jobs w moment) (omega arith))

pub starts-can-all : (slots moment : ℕ) (jobs : Jobs JobValue) → slots ≤ MOST_RUNNING → AreJobs jobs →
    CanTake (starts_at slots moment jobs) jobs
starts-can-all slots moment jobs few h = starts-can (slots - length jobs.running) moment jobs.waiting jobs
    (few-run slots (length jobs.running) MOST_RUNNING few h.few_running)

starts-few : (most moment : ℕ) (ws : List (ℕ × JobValue)) (jobs : Jobs JobValue) →
    length (jobs_after_steps (starts_of most moment ws) (waiting_with jobs ws)).running ≤ most + length jobs.running
starts-few zero moment ws jobs = omega arith
starts-few (suc most) moment [] jobs = omega arith
starts-few (suc most) moment (w ∷ ws) jobs =
    let later = starts-few most moment ws (with_running jobs w moment) in
    let more = longer jobs w moment in
    omega arith

pub starts-few-all : (slots moment : ℕ) (jobs : Jobs JobValue) → length jobs.running ≤ slots →
    length (jobs_after_steps (starts_at slots moment jobs) jobs).running ≤ slots
starts-few-all slots moment jobs h = let few = starts-few (slots - length jobs.running) moment jobs.waiting jobs in omega (arith, few)

starts-fill : (most moment : ℕ) (ws : List (ℕ × JobValue)) (jobs : Jobs JobValue) →
    (most + length jobs.running ≤ length (jobs_after_steps (starts_of most moment ws) (waiting_with jobs ws)).running)
    ⊎ (length (jobs_after_steps (starts_of most moment ws) (waiting_with jobs ws)).waiting ≡ 0)
starts-fill zero moment ws jobs = inl (omega arith)
starts-fill (suc most) moment [] jobs = inr refl
starts-fill (suc most) moment (w ∷ ws) jobs = go (starts-fill most moment ws (with_running jobs w moment)) where
  go : (most + length (with_running jobs w moment).running ≤ length
      (jobs_after_steps (starts_of most moment ws) (waiting_with (with_running jobs w moment) ws)).running)
      ⊎ (length (jobs_after_steps (starts_of most moment ws) (waiting_with (with_running jobs w moment) ws)).waiting ≡ 0) →
      (suc most + length jobs.running ≤ length (jobs_after_steps (starts_of (suc most) moment (w ∷ ws))
      (waiting_with jobs (w ∷ ws))).running) ⊎ (length
      (jobs_after_steps (starts_of (suc most) moment (w ∷ ws)) (waiting_with jobs (w ∷ ws))).waiting ≡ 0)
  go (inl full) = inl (let more = longer jobs w moment in omega arith)
  go (inr none) = inr none

pub starts-fill-all : (slots moment : ℕ) (jobs : Jobs JobValue) →
    (slots ≤ length (jobs_after_steps (starts_at slots moment jobs) jobs).running)
    ⊎ (length (jobs_after_steps (starts_at slots moment jobs) jobs).waiting ≡ 0)
starts-fill-all slots moment jobs = go (starts-fill (slots - length jobs.running) moment jobs.waiting jobs) where
  go : ((slots - length jobs.running) + length jobs.running ≤ length (jobs_after_steps (starts_at slots moment jobs) jobs).running)
      ⊎ (length (jobs_after_steps (starts_at slots moment jobs) jobs).waiting ≡ 0) →
      (slots ≤ length (jobs_after_steps (starts_at slots moment jobs) jobs).running)
      ⊎ (length (jobs_after_steps (starts_at slots moment jobs) jobs).waiting ≡ 0)
  go (inl full) = inl (omega arith)
  go (inr none) = inr none
