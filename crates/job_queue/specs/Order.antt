-- What holds of an instance's jobs at all times.
use Rattle.std.specs.Prelude.{◌≢◌, ◌<◌, ◌≤◌, ℕ, ◌+◌, List, [], ◌∷◌, ◌++◌, length}
use Rattle.std.specs.List.{AllByRecursion}
use Rattle.std.specs.Map.{keys_of}
use Rattle.job_queue.specs.declared.queue.TheConstants.{LAST_NUMBER, MOST_WAITING, MOST_RUNNING, MOST_ENDED}
use Rattle.job_queue.specs.Jobs.{Jobs}

-- each stands so to all behind it
abbrev pub AreRelated : {A : Type 0} → (A → A → Type 0) → List A → Type 0
AreRelated R [] = Unit {0}
AreRelated R (x ∷ xs) = AllByRecursion (R x) xs × AreRelated R xs

abbrev pub AreRising : List ℕ → Type 0
AreRising ns = AreRelated (λ a b. a < b) ns

abbrev pub AreDistinct : List ℕ → Type 0
AreDistinct ns = AreRelated (λ a b. a ≢ b) ns

-- a number is not one of these
abbrev pub IsNone : List ℕ → ℕ → Type 0
IsNone ns n = AllByRecursion (λ m. m ≢ n) ns

-- the numbers of the jobs that run and of those that wait
abbrev pub open_numbers : {J : Type 0} → Jobs J → List ℕ
open_numbers jobs = keys_of jobs.running ++ keys_of jobs.waiting

abbrev pub ended_numbers : {J : Type 0} → Jobs J → List ℕ
ended_numbers jobs = keys_of jobs.ended

pub record AreJobs {J : Type 0} (jobs : Jobs J) : Type 0 where
  -- each that runs is numbered below each that waits, and both are in rising order
  pub rising : AreRising (open_numbers jobs)
  -- each number was given
  pub given : AllByRecursion (λ n. n < jobs.next) (open_numbers jobs)
  pub ended_given : AllByRecursion (λ n. n < jobs.next) (ended_numbers jobs)
  -- none has ended twice, and none that has ended waits or runs
  pub ended_once : AreDistinct (ended_numbers jobs)
  pub ended_apart : AllByRecursion (IsNone (open_numbers jobs)) (ended_numbers jobs)
  pub few_numbers : jobs.next ≤ LAST_NUMBER + 1
  pub few_waiting : length jobs.waiting ≤ MOST_WAITING
  pub few_running : length jobs.running ≤ MOST_RUNNING
  pub few_ended : length jobs.ended ≤ MOST_ENDED
