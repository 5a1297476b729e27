-- Jobs that end, one after another, and what these steps leave.
use Rattle.std.proofs.Common.{◌≡◌, ℕ, ◌+◌, ◌<◌, Bool, true, false, List, [], ◌∷◌, ◌++◌, length, Option, Some, None, refl, sym, ap, subst, ◌∙◌, append_assoc, length-append, arith}
use Rattle.std.specs.Prelude.{nat_le, option_map}
use Rattle.std.specs.List.{AllByRecursion}
use Rattle.std.specs.Map.{keys_of, lookup, remove_entry}
use Rattle.std.proofs.lemmas.Bool.{eq-eqb, ne_eqb}
use Rattle.job_queue.specs.Jobs.{Jobs, same_number, jobs_after_end, running_job}
use Rattle.job_queue.specs.Order.{AreJobs, AreRising}
use Rattle.job_queue.specs.declared.queue.Running.{Running}
use Rattle.job_queue.proofs.Keeping.{after-end}
use Rattle.execution_messages.specs.declared.fault.Fault.TheVariants.{TimedOut}
use Rattle.execution_messages.specs.Progress.{EndValue, fails, completed_text}
use Rattle.execution.specs.Job.{JobValue}
use Rattle.execution.specs.Steps.{StepValue, times_out, ending_of, jobs_after_steps, timings_out}
use Rattle.execution.specs.Taking.{CanTake, EndJobs}

abbrev Entry : Type 0
Entry = ℕ × Running JobValue

all-at : (P : ℕ → Type 0) (ps : List Entry) (r : Entry) (rest : List Entry) (ws : List ℕ) →
    AllByRecursion P (keys_of (ps ++ r ∷ rest) ++ ws) → P r.0
all-at P [] r rest ws h = h.0
all-at P (p ∷ ps) r rest ws h = all-at P ps r rest ws h.1

other-at : (p : Entry) (ps : List Entry) (r : Entry) (rest : List Entry) (ws : List ℕ) →
    AllByRecursion (λ n. p.0 < n) (keys_of (ps ++ r ∷ rest) ++ ws) → same_number r.0 p.0 ≡ false
other-at p ps r rest ws h = let below : p.0 < r.0 = all-at (λ n. p.0 < n) ps r rest ws h in ne_eqb r.0 p.0 (λ is. omega arith)

found-at : (ps : List Entry) (r : Entry) (rest : List Entry) (ws : List ℕ) → AreRising (keys_of (ps ++ r ∷ rest) ++ ws) →
    lookup (same_number r.0) (ps ++ r ∷ rest) ≡ Some r.1
found-at [] r rest ws h = let same : same_number r.0 r.0 ≡ true = eq-eqb r.0 r.0 refl in rw same refl
found-at (p ∷ ps) r rest ws h = let other = other-at p ps r rest ws h.0 in rw other (found-at ps r rest ws h.1)

removed-at : (ps : List Entry) (r : Entry) (rest : List Entry) (ws : List ℕ) → AreRising (keys_of (ps ++ r ∷ rest) ++ ws) →
    remove_entry (same_number r.0) (ps ++ r ∷ rest) ≡ ps ++ rest
removed-at [] r rest ws h = let same : same_number r.0 r.0 ≡ true = eq-eqb r.0 r.0 refl in rw same refl
removed-at (p ∷ ps) r rest ws h = let other = other-at p ps r rest ws h.0 in
    rw other (ap (λ (es : List Entry). p ∷ es) (removed-at ps r rest ws h.1))

abbrev last_of_job : Entry → List ℕ
last_of_job r = completed_text r.0 r.1.job.action (fails TimedOut [])

-- steps by which jobs end: they can be taken, keep the order and what waits, and one job fewer runs
-- after each
pub record End (steps : List StepValue) (jobs : Jobs JobValue) : Type 0 where
  pub can : CanTake steps jobs
  pub jobs_are : AreJobs (jobs_after_steps steps jobs)
  pub fewer : EndJobs steps jobs

ended : (n : ℕ) (operation : List ℕ) (job : JobValue) (ps : List Entry) (r : Entry) (rest : List Entry) (jobs : Jobs JobValue)
    (s : StepValue) (steps : List StepValue) → jobs.running ≡ ps ++ r ∷ rest → CanTake (s ∷ steps) jobs →
    jobs_after_steps (s ∷ steps) jobs ≡ jobs_after_steps steps (jobs_after_end n operation jobs) →
    (jobs_after_end n operation jobs).running ≡ ps ++ rest → End steps (jobs_after_end n operation jobs) → End (s ∷ steps) jobs
ended n operation job ps r rest jobs s steps is can after left e =
    let longer : length jobs.running ≡ length ps + length (r ∷ rest) =
    ap (λ (es : List Entry). length es) is ∙ length-append ps (r ∷ rest) in
    let shorter : length (jobs_after_end n operation jobs).running ≡ length ps + length rest =
    ap (λ (es : List Entry). length es) left ∙ length-append ps rest in
    record {
      can = can;
      jobs_are = subst (λ (js : Jobs JobValue). AreJobs js) (sym after) e.jobs_are;
      fewer = record {
        waiting = ap (λ (js : Jobs JobValue). js.waiting) after ∙ e.fewer.waiting;
        count = let same : length (jobs_after_steps (s ∷ steps) jobs).running
            ≡ length (jobs_after_steps steps (jobs_after_end n operation jobs)).running =
            ap (λ (js : Jobs JobValue). length js.running) after in let later = e.fewer.count in
            omega (arith, same, later, longer, shorter);
      };
    }

timings-end : (moment : ℕ) (ps rest : List Entry) (jobs : Jobs JobValue) → jobs.running ≡ ps ++ rest → AreJobs jobs →
    End (timings_out moment rest) jobs
timings-end moment ps [] jobs is h = record { can = tt; jobs_are = h; fewer = record { waiting = refl; count = omega arith } }
timings-end moment ps (r ∷ rest) jobs is h =
    go (nat_le r.1.deadline moment) refl (λ after is h. timings-end moment ps rest after is h)
    (timings-end moment (ps ++ r ∷ []) rest jobs (is ∙ sym (append_assoc ps (r ∷ []) rest)) h) where
      rising : AreRising (keys_of (ps ++ r ∷ rest) ++ keys_of jobs.waiting)
      rising = subst (λ (es : List Entry). AreRising (keys_of es ++ keys_of jobs.waiting)) is h.rising

      found : running_job r.0 jobs ≡ Some r.1.job
      found = ap (λ (es : List Entry). option_map (λ r. r.job) (lookup (same_number r.0) es)) is
          ∙ ap (option_map (λ r. r.job)) (found-at ps r rest (keys_of jobs.waiting) rising)

      removed : remove_entry (same_number r.0) jobs.running ≡ ps ++ rest
      removed = ap (remove_entry (same_number r.0)) is ∙ removed-at ps r rest (keys_of jobs.waiting) rising

      go : (b : Bool) → nat_le r.1.deadline moment ≡ b →
          ((after : Jobs JobValue) → after.running ≡ ps ++ rest → AreJobs after → End (timings_out moment rest) after) →
          End (timings_out moment rest) jobs → End (timings_out moment (r ∷ rest)) jobs
      go true due later kept =
          let e = later (jobs_after_end r.0 (last_of_job r) jobs) removed (after-end r.0 (last_of_job r) r.1.job jobs h found) in
          rw due (ended r.0 (last_of_job r) r.1.job ps r rest jobs (times_out r.0 (last_of_job r)) (timings_out moment rest) is
          ((r.1.job, found), e.can) refl removed e)
      go false due later kept = rw due kept

pub tick-ends : (moment : ℕ) (jobs : Jobs JobValue) → AreJobs jobs → End (timings_out moment jobs.running) jobs
tick-ends moment jobs h = timings-end moment [] jobs.running jobs refl h

one-less : (n : ℕ) (job : JobValue) (rs : List Entry) → option_map (λ r. r.job) (lookup (same_number n) rs) ≡ Some job →
    length (remove_entry (same_number n) rs) + 1 ≡ length rs
one-less n job [] is = absurd (let no : None ≡ Some job = is in cc)
one-less n job (r ∷ rs) is = go (same_number n r.0) refl (λ later. one-less n job rs later) where
  go : (b : Bool) → same_number n r.0 ≡ b → (option_map (λ r. r.job) (lookup (same_number n) rs) ≡ Some job →
      length (remove_entry (same_number n) rs) + 1 ≡ length rs) → length (remove_entry (same_number n) (r ∷ rs)) + 1 ≡ length (r ∷ rs)
  go true here later = rw here (omega arith)
  go false here later = let rest = later (rw here at is) in rw here (omega arith)

pub outcome-ends : (n : ℕ) (e : EndValue) (jobs : Jobs JobValue) → AreJobs jobs → End (ending_of n e (running_job n jobs)) jobs
outcome-ends n e jobs h = go (running_job n jobs) refl where
  go : (o : Option JobValue) → running_job n jobs ≡ o → End (ending_of n e o) jobs
  go None is = record { can = tt; jobs_are = h; fewer = record { waiting = refl; count = omega arith } }
  go (Some job) is =
      let operation : List ℕ = completed_text n job.action e in
      record {
        can = ((job, is), tt);
        jobs_are = after-end n operation job jobs h is;
        fewer = record { waiting = refl; count = one-less n job jobs.running is };
      }

pub nothing-ends : (jobs : Jobs JobValue) → AreJobs jobs → End [] jobs
nothing-ends jobs h = record { can = tt; jobs_are = h; fewer = record { waiting = refl; count = omega arith } }
