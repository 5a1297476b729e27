-- What may become of the jobs of an instance, one change after another.
use Rattle.std.specs.Prelude.{◌≡◌, ◌<◌, ◌≤◌, ⊤, ℕ, zero, suc, ◌+◌, List, [], ◌∷◌, ◌++◌, length, Bool, false, Option, Some}
use Rattle.std.specs.Map.{lookup}
use Rattle.job_queue.specs.declared.queue.TheConstants.{LAST_NUMBER, MOST_WAITING, MOST_RUNNING}
use Rattle.job_queue.specs.Jobs.{Jobs, jobs_after_push, jobs_after_done, jobs_after_start, jobs_after_end, jobs_without, or_else, running_job, same_number}

pub data JobChange (J : Type 0) : Type 0 where
  -- a new job waits
  pushes : J → JobChange J
  -- a new job is done at once, with this Operation
  does : List ℕ → JobChange J
  -- the least-numbered job that waits runs until this deadline
  starts : ℕ → JobChange J
  -- the job that runs under this number ends with this Operation
  ends : ℕ → List ℕ → JobChange J
  -- the job that runs under this number is forgotten
  forgets : ℕ → JobChange J

abbrev pub jobs_after : {J : Type 0} → JobChange J → Jobs J → Jobs J
jobs_after (pushes job) jobs = jobs_after_push job jobs
jobs_after (does operation) jobs = jobs_after_done operation jobs
jobs_after (starts deadline) jobs = jobs_after_start deadline jobs
jobs_after (ends n operation) jobs = jobs_after_end n operation jobs
jobs_after (forgets n) jobs = jobs_without n jobs

-- a job runs under a number
abbrev pub IsRunning : {J : Type 0} → ℕ → Jobs J → Type 0
IsRunning {J} n jobs = (job : J) × (running_job n jobs ≡ Some job)

-- the limits let a change happen
abbrev pub CanHappen : {J : Type 0} → JobChange J → Jobs J → Type 0
CanHappen (pushes job) jobs = (jobs.next ≤ LAST_NUMBER) × (length jobs.waiting < MOST_WAITING)
CanHappen (does operation) jobs = jobs.next ≤ LAST_NUMBER
CanHappen (starts deadline) jobs = length jobs.running < MOST_RUNNING
CanHappen (ends n operation) jobs = IsRunning n jobs
CanHappen (forgets n) jobs = ⊤

-- ---- numbers

-- the numbers that a change uses up
abbrev pub number_given : {J : Type 0} → JobChange J → Jobs J → List ℕ
number_given (pushes job) jobs = jobs.next ∷ []
number_given (does operation) jobs = jobs.next ∷ []
number_given _ jobs = []

abbrev pub numbers_given : {J : Type 0} → List (JobChange J) → Jobs J → List ℕ
numbers_given [] jobs = []
numbers_given (c ∷ cs) jobs = number_given c jobs ++ numbers_given cs (jobs_after c jobs)

-- so many numbers from one on
abbrev pub consecutive : ℕ → ℕ → List ℕ
consecutive n zero = []
consecutive n (suc most) = n ∷ consecutive (n + 1) most

-- ---- a job of one number

-- these changes, one after another
abbrev pub jobs_after_all : {J : Type 0} → List (JobChange J) → Jobs J → Jobs J
jobs_after_all [] jobs = jobs
jobs_after_all (c ∷ cs) jobs = jobs_after_all cs (jobs_after c jobs)

-- the job of a number, while it waits or runs
abbrev pub open_job : {J : Type 0} → ℕ → Jobs J → Option J
open_job n jobs = or_else (running_job n jobs) (lookup (same_number n) jobs.waiting)

-- the job that runs under this number ends, or is forgotten
abbrev pub closes : {J : Type 0} → ℕ → JobChange J → Bool
closes n (pushes job) = false
closes n (does operation) = false
closes n (starts deadline) = false
closes n (ends m operation) = same_number n m
closes n (forgets m) = same_number n m
