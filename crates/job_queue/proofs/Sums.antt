-- What the jobs that wait and run hold, as jobs come, start and end.
use Rattle.std.proofs.Common.{◌≡◌, ℕ, ◌+◌, Bool, true, false, List, [], ◌∷◌, ◌++◌, drop, Some, None, refl, arith}
use Rattle.std.specs.Prelude.{option_map}
use Rattle.std.specs.Map.{lookup, remove_entry}
use Rattle.job_queue.specs.declared.queue.Running.{Running}
use Rattle.job_queue.specs.Jobs.{Jobs, same_number, jobs_after_push, jobs_after_start, jobs_after_end, jobs_without, running_job, started}
use Rattle.job_queue.specs.Sums.{waiting_sum, running_sum, jobs_sum}

module _ {J : Type 0} where
  waiting-append : (f : J → ℕ) (ws : List (ℕ × J)) (n : ℕ) (job : J) → waiting_sum f (ws ++ (n, job) ∷ []) ≡ waiting_sum f ws + f job
  waiting-append f [] n job = omega arith
  waiting-append f (w ∷ ws) n job = let later = waiting-append f ws n job in omega arith

  pub sum-push : (f : J → ℕ) (job : J) (jobs : Jobs J) → jobs_sum f (jobs_after_push job jobs) ≡ jobs_sum f jobs + f job
  sum-push f job jobs = omega (arith, waiting-append f jobs.waiting jobs.next job)

  running-append : (f : J → ℕ) (rs ss : List (ℕ × Running J)) → running_sum f (rs ++ ss) ≡ running_sum f rs + running_sum f ss
  running-append f [] ss = omega arith
  running-append f (r ∷ rs) ss = let later = running-append f rs ss in omega arith

  sum-started : (f : J → ℕ) (deadline : ℕ) (ws : List (ℕ × J)) →
      waiting_sum f (drop 1 ws) + running_sum f (started deadline ws) ≡ waiting_sum f ws
  sum-started f deadline [] = refl
  sum-started f deadline (w ∷ ws) = omega arith

  pub sum-start : (f : J → ℕ) (deadline : ℕ) (jobs : Jobs J) → jobs_sum f (jobs_after_start deadline jobs) ≡ jobs_sum f jobs
  sum-start f deadline jobs = omega (
    arith,
    running-append f jobs.running
        (started deadline jobs.waiting),
    sum-started f deadline jobs.waiting,
  )

  sum-without : (f : J → ℕ) (n : ℕ) (job : J) (rs : List (ℕ × Running J)) → option_map (λ r. r.job) (lookup (same_number n) rs) ≡ Some job →
      running_sum f (remove_entry (same_number n) rs) + f job ≡ running_sum f rs
  sum-without f n job [] is = absurd (let no : None ≡ Some job = is in cc)
  sum-without f n job (r ∷ rs) is = go (same_number n r.0) refl (λ later. sum-without f n job rs later) where
    go : (b : Bool) → same_number n r.0 ≡ b → (option_map (λ r. r.job) (lookup (same_number n) rs) ≡ Some job →
        running_sum f (remove_entry (same_number n) rs) + f job ≡ running_sum f rs) →
        running_sum f (remove_entry (same_number n) (r ∷ rs)) + f job ≡ running_sum f (r ∷ rs)
    go true here later =
        let found : Some r.1.job ≡ Some job = rw here at is in
        let same : r.1.job ≡ job = cc in
        rw (here, ← same) (omega arith)
    go false here later = let rest = later (rw here at is) in rw here (omega arith)

  pub sum-forget : (f : J → ℕ) (n : ℕ) (job : J) (jobs : Jobs J) → running_job n jobs ≡ Some job →
      jobs_sum f (jobs_without n jobs) + f job ≡ jobs_sum f jobs
  sum-forget f n job jobs is = omega (arith, sum-without f n job jobs.running is)

  pub sum-end : (f : J → ℕ) (n : ℕ) (operation : List ℕ) (job : J) (jobs : Jobs J) → running_job n jobs ≡ Some job →
      jobs_sum f (jobs_after_end n operation jobs) + f job ≡ jobs_sum f jobs
  sum-end f n operation job jobs is = sum-forget f n job jobs is
