-- Numbers are given one after another; where the numbers of jobs stand.
use Rattle.std.proofs.Common.{◌≡◌, ◌≢◌, ℕ, zero, suc, ◌+◌, ◌<◌, ◌≤◌, List, [], ◌∷◌, ◌++◌, length, Some, refl, sym, subst, ap, arith}
use Rattle.std.specs.List.{AllByRecursion}
use Rattle.std.specs.Map.{keys_of}
use Rattle.job_queue.specs.Jobs.{Jobs, first_number}
use Rattle.job_queue.specs.Changes.{JobChange, pushes, does, starts, ends, forgets, jobs_after, numbers_given, consecutive}
use Rattle.job_queue.specs.Order.{AreRising, AreDistinct, IsNone, AreJobs, open_numbers, ended_numbers}
use Rattle.job_queue.proofs.Orders.{all-weaker, related-append, related-back}

above : (n m k : ℕ) → n < m → AllByRecursion (λ x. n < x) (consecutive m k)
above n m zero h = tt
above n m (suc k) h = (h, above n (m + 1) k (omega arith))

rising-consecutive : (n k : ℕ) → AreRising (consecutive n k)
rising-consecutive n zero = tt
rising-consecutive n (suc k) = (above n (n + 1) k (omega arith), rising-consecutive (n + 1) k)

-- numbers in rising order are distinct
distinct-rising : (ns : List ℕ) → AreRising ns → AreDistinct ns
distinct-rising [] h = tt
distinct-rising (n ∷ ns) h = (all-weaker (λ m. n < m) (λ m. n ≢ m) (λ m less is. omega arith) ns h.0, distinct-rising ns h.1)

-- of numbers none of which is an ended one, none is among the ended ones
apart-none : (ns : List ℕ) → AllByRecursion (λ n. AllByRecursion (λ e. n ≢ e) []) ns
apart-none [] = tt
apart-none (n ∷ ns) = (tt, apart-none ns)

apart-one : (e : ℕ) (es ns : List ℕ) → AllByRecursion (λ n. n ≢ e) ns → AllByRecursion (λ n. AllByRecursion (λ m. n ≢ m) es) ns →
    AllByRecursion (λ n. AllByRecursion (λ m. n ≢ m) (e ∷ es)) ns
apart-one e es [] a b = tt
apart-one e es (n ∷ ns) a b = ((a.0, b.0), apart-one e es ns a.1 b.1)

apart-other : (ns es : List ℕ) → AllByRecursion (IsNone ns) es → AllByRecursion (λ n. AllByRecursion (λ e. n ≢ e) es) ns
apart-other ns [] h = apart-none ns
apart-other ns (e ∷ es) h = apart-one e es ns h.0 (apart-other ns es h.1)

module _ {J : Type 0} where
  pub given-from : (cs : List (JobChange J)) (jobs : Jobs J) →
      numbers_given cs jobs ≡ consecutive jobs.next (length (numbers_given cs jobs))
  given-from [] jobs = refl
  given-from (pushes job ∷ cs) jobs = ap (λ (ns : List ℕ). jobs.next ∷ ns) (given-from cs (jobs_after (pushes job) jobs))
  given-from (does operation ∷ cs) jobs = ap (λ (ns : List ℕ). jobs.next ∷ ns) (given-from cs (jobs_after (does operation) jobs))
  given-from (starts deadline ∷ cs) jobs = given-from cs (jobs_after (starts deadline) jobs)
  given-from (ends n operation ∷ cs) jobs = given-from cs (jobs_after (ends n operation) jobs)
  given-from (forgets n ∷ cs) jobs = given-from cs (jobs_after (forgets n) jobs)

  pub given-rising : (cs : List (JobChange J)) (jobs : Jobs J) → AreRising (numbers_given cs jobs)
  given-rising cs jobs = subst AreRising (sym (given-from cs jobs)) (rising-consecutive jobs.next (length (numbers_given cs jobs)))

  pub one-stage : (jobs : Jobs J) → AreJobs jobs → AreDistinct (open_numbers jobs ++ ended_numbers jobs)
  one-stage jobs h =
      related-append (λ a b. a ≢ b) (open_numbers jobs) (ended_numbers jobs)
      (distinct-rising (open_numbers jobs) h.rising) h.ended_once
      (apart-other (open_numbers jobs) (ended_numbers jobs) h.ended_apart)

  least-first : (n : ℕ) (ws : List (ℕ × J)) → first_number ws ≡ Some n → AreRising (keys_of ws) → AllByRecursion (λ m. n ≤ m) (keys_of ws)
  least-first n [] is h = tt
  least-first n (w ∷ ws) is h =
      let found : Some w.0 ≡ Some n = is in
      let same : w.0 ≡ n = cc in
      (omega (arith, same), all-weaker (λ m. w.0 < m) (λ m. n ≤ m) (λ m less. omega (arith, same)) (keys_of ws) h.0)

  pub least-starts : (n : ℕ) (jobs : Jobs J) → AreJobs jobs → first_number jobs.waiting ≡ Some n →
      AllByRecursion (λ m. n ≤ m) (keys_of jobs.waiting)
  least-starts n jobs h is = least-first n jobs.waiting is
      (related-back (λ a b. a < b) (keys_of jobs.running) (keys_of jobs.waiting) h.rising)
