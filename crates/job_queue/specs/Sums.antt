-- What the jobs that wait and run hold, all together.
use Rattle.std.specs.Prelude.{ℕ, ◌+◌, List, [], ◌∷◌}
use Rattle.job_queue.specs.declared.queue.Running.{Running}
use Rattle.job_queue.specs.Jobs.{Jobs}

abbrev pub waiting_sum : {J : Type 0} → (J → ℕ) → List (ℕ × J) → ℕ
waiting_sum f [] = 0
waiting_sum f (w ∷ ws) = f w.1 + waiting_sum f ws

abbrev pub running_sum : {J : Type 0} → (J → ℕ) → List (ℕ × Running J) → ℕ
running_sum f [] = 0
running_sum f (r ∷ rs) = f r.1.job + running_sum f rs

abbrev pub jobs_sum : {J : Type 0} → (J → ℕ) → Jobs J → ℕ
jobs_sum f jobs = waiting_sum f jobs.waiting + running_sum f jobs.running
