-- A call of WaitExecution is answered by a short message.
use Rattle.std.proofs.Common.{◌≡◌, ℕ, ◌+◌, ◌<◌, ◌≤◌, Bool, true, false, cond, List, [], ◌∷◌, Option, Some, None, refl, subst, sym, option_map, eqb-true, arith}
use Rattle.std.specs.Prelude.{IfOk}
use Rattle.std.specs.List.{AllByRecursion}
use Rattle.std.specs.Map.{keys_of, lookup}
use Rattle.job_queue.specs.Jobs.{Jobs, StageValue, waits, runs, has_ended, or_else, same_number}
use Rattle.job_queue.specs.Order.{AreJobs, open_numbers}
use Rattle.job_queue.specs.declared.queue.Running.{Running}
use Rattle.job_queue.specs.declared.queue.TheConstants.{LAST_NUMBER}
use Rattle.job_queue.proofs.Orders.{all-weaker}
use Rattle.execution.specs.Job.{JobValue}
use Rattle.execution.specs.Waiting.{number_named, wait, wait_answer, wait_for}
use Rattle.tree_calls.proofs.Named.{all_front}
use Rattle.outcomes.specs.Short.{HasForm, IsShort}
use Rattle.outcomes.specs.Told.{AreTold, IsShortWaitAnswer}
use Rattle.outcomes.proofs.Written.{queued_short, executing_short}

-- ---- numbers of jobs

abbrev pub IsNumber : ℕ → Type 0
IsNumber n = n ≤ LAST_NUMBER + 1

pub numbers_are : (jobs : Jobs JobValue) → AreJobs jobs →
    AllByRecursion IsNumber (keys_of jobs.running) × AllByRecursion IsNumber (keys_of jobs.waiting)
numbers_are jobs h =
    let few = h.few_numbers in
    all_front IsNumber (keys_of jobs.running) (keys_of jobs.waiting)
    (all-weaker (λ n. n < jobs.next) IsNumber (λ n below. omega arith) (open_numbers jobs) h.given)

-- ---- what is found under a number

module _ {X : Type 0} where
  found_value : (P : X → Type 0) (n : ℕ) (es : List (ℕ × X)) (x : X) → AllByRecursion (λ (e : ℕ × X). P e.1) es →
      lookup (same_number n) es ≡ Some x → P x
  found_value P n [] x h is = absurd (cc)
  found_value P n (e ∷ es) x h is = go (same_number n e.0) is (λ later. found_value P n es x h.1 later) where
    go : (b : Bool) → cond b (Some e.1) (lookup (same_number n) es) ≡ Some x → (lookup (same_number n) es ≡ Some x → P x) → P x
    go true is later = let same : e.1 ≡ x = cc in subst P same h.0
    go false is later = later is

  found_number : (P : ℕ → Type 0) (n : ℕ) (es : List (ℕ × X)) (x : X) → AllByRecursion P (keys_of es) → lookup (same_number n) es ≡ Some x →
      P n
  found_number P n [] x h is = absurd (cc)
  found_number P n (e ∷ es) x h is = go (same_number n e.0) refl is (λ later. found_number P n es x h.1 later) where
    go : (b : Bool) → same_number n e.0 ≡ b → cond b (Some e.1) (lookup (same_number n) es) ≡ Some x →
        (lookup (same_number n) es ≡ Some x → P n) → P n
    go true here is later = subst P (sym (eqb-true n e.0 here)) h.0
    go false here is later = later is

-- ---- answers

abbrev IsShortWait : ℕ → Option (StageValue JobValue) → Type 0
IsShortWait n stage = IfOk (wait_answer n stage) IsShortWaitAnswer

stage_short : (n : ℕ) (jobs : Jobs JobValue) (r : Option (Running JobValue)) (w : Option JobValue) (e : Option (List ℕ)) → AreJobs jobs →
    AreTold jobs
    → lookup (same_number n) jobs.running ≡ r → lookup (same_number n) jobs.waiting ≡ w → lookup (same_number n) jobs.ended ≡ e
    → IsShortWait n (or_else (option_map runs r) (or_else (option_map waits w) (option_map has_ended e)))
stage_short n jobs (Some r) w e h told is later last =
    let form = found_value (λ (r : Running JobValue). HasForm r.job.action) n jobs.running r told.running is in
    let number = found_number IsNumber n jobs.running r (numbers_are jobs h).0 is in
    let short = executing_short n r.job.action number form in
    omega arith
stage_short n jobs None (Some job) e h told is later last =
    let form = found_value (λ (job : JobValue). HasForm job.action) n jobs.waiting job told.waiting later in
    let number = found_number IsNumber n jobs.waiting job (numbers_are jobs h).1 later in
    let short = queued_short n job.action number form in
    omega arith
stage_short n jobs None None (Some operation) h told is later last = found_value IsShort n jobs.ended operation told.ended last
stage_short n jobs None None None h told is later last = tt

pub wait_short : (name : List ℕ) (jobs : Jobs JobValue) → AreJobs jobs → AreTold jobs → IfOk (wait name jobs) IsShortWaitAnswer
wait_short name jobs h told = go (number_named name) where
  go : (o : Option ℕ) → IfOk (wait_for o jobs) IsShortWaitAnswer
  go None = tt
  go (Some n) = stage_short n jobs (lookup (same_number n) jobs.running) (lookup (same_number n) jobs.waiting)
      (lookup (same_number n) jobs.ended) h told refl refl refl
