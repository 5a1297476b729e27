-- The jobs of an instance (remote_execution.proto, Execution). Each is given the next number, from
-- 1; it waits, runs until a deadline and ends. What a job is does not matter here.
use Rattle.std.specs.Prelude.{ℕ, ◌+◌, ◌-◌, List, [], ◌∷◌, ◌++◌, length, drop, nat_le, Bool, ◌==◌, Option, Some, None, option_map, if◌then◌else◌}
use Rattle.std.specs.Map.{lookup, remove_entry}
use Rattle.job_queue.specs.declared.queue.Running.{Running}
use Rattle.job_queue.specs.declared.queue.TheConstants.{MOST_ENDED}

-- the next number, and under their numbers the jobs that wait and those that run, in rising order,
-- and the last Operation of those that ended last, in the order in which they ended
pub record Jobs (J : Type 0) : Type 0 where
  pub next : ℕ
  pub waiting : List (ℕ × J)
  pub running : List (ℕ × Running J)
  pub ended : List (ℕ × List ℕ)

abbrev pub no_jobs : {J : Type 0} → Jobs J
no_jobs = record { next = 1; waiting = []; running = []; ended = [] }

abbrev pub same_number : ℕ → ℕ → Bool
same_number a b = a == b

-- ---- changes

-- a new job is given the next number, and waits behind the others
abbrev pub jobs_after_push : {J : Type 0} → J → Jobs J → Jobs J
jobs_after_push job jobs = record jobs {
  next = jobs.next + 1;
  waiting = jobs.waiting ++ (jobs.next, job) ∷ [];
}

-- the last so many
abbrev pub last_of : {A : Type 0} → ℕ → List A → List A
last_of most xs = drop (length xs - most) xs

-- the MOST_ENDED that ended last are kept
abbrev pub with_ended : ℕ → List ℕ → List (ℕ × List ℕ) → List (ℕ × List ℕ)
with_ended n operation ended = last_of MOST_ENDED (ended ++ (n, operation) ∷ [])

-- a job that is done at once is given the next number, and has ended
abbrev pub jobs_after_done : {J : Type 0} → List ℕ → Jobs J → Jobs J
jobs_after_done operation jobs = record jobs {
  next = jobs.next + 1;
  ended = with_ended jobs.next operation jobs.ended;
}

-- the front one of those that wait, as one that runs until a deadline
abbrev pub started : {J : Type 0} → ℕ → List (ℕ × J) → List (ℕ × Running J)
started deadline [] = []
started deadline (w ∷ ws) = (w.0, record { deadline = deadline; job = w.1 }) ∷ []

-- the least-numbered job that waits runs behind the others
abbrev pub jobs_after_start : {J : Type 0} → ℕ → Jobs J → Jobs J
jobs_after_start deadline jobs = record jobs {
  waiting = drop 1 jobs.waiting;
  running = jobs.running ++ started deadline jobs.waiting;
}

-- a running job is forgotten
abbrev pub jobs_without : {J : Type 0} → ℕ → Jobs J → Jobs J
jobs_without n jobs = record jobs { running = remove_entry (same_number n) jobs.running }

-- a running job ends
abbrev pub jobs_after_end : {J : Type 0} → ℕ → List ℕ → Jobs J → Jobs J
jobs_after_end n operation jobs = record jobs {
  running = remove_entry (same_number n) jobs.running;
  ended = with_ended n operation jobs.ended;
}

-- ---- questions

-- the front one of those that wait
abbrev pub front_of : {A : Type 0} → List (ℕ × A) → Option A
front_of [] = None
front_of (e ∷ es) = Some e.1

abbrev pub first_number : {A : Type 0} → List (ℕ × A) → Option ℕ
first_number [] = None
first_number (e ∷ es) = Some e.0

abbrev pub running_job : {J : Type 0} → ℕ → Jobs J → Option J
running_job n jobs = option_map (λ r. r.job) (lookup (same_number n) jobs.running)

-- the least-numbered running job whose deadline a moment has reached
abbrev pub first_due : {J : Type 0} → ℕ → List (ℕ × Running J) → Option ℕ
first_due moment [] = None
first_due moment (r ∷ rs) = if nat_le r.1.deadline moment then Some r.0 else first_due moment rs

-- the stage of a job, as far as it is known
pub data StageValue (J : Type 0) : Type 0 where
  waits : J → StageValue J
  runs : Running J → StageValue J
  -- with this Operation
  has_ended : List ℕ → StageValue J

abbrev pub or_else : {A : Type 0} → Option A → Option A → Option A
or_else None other = other
or_else (Some x) other = Some x

abbrev pub stage_among : {J : Type 0} → ℕ → List (ℕ × Running J) → List (ℕ × J) →
    List (ℕ × List ℕ) → Option (StageValue J)
stage_among n running waiting ended =
    or_else (option_map runs (lookup (same_number n) running))
    (or_else (option_map waits (lookup (same_number n) waiting))
    (option_map has_ended (lookup (same_number n) ended)))

abbrev pub stage_of : {J : Type 0} → ℕ → Jobs J → Option (StageValue J)
stage_of n jobs = stage_among n jobs.running jobs.waiting jobs.ended
