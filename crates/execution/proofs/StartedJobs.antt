-- The jobs that start at an event run behind it. So each order that goes with its steps has its
-- meaning.
use Rattle.std.proofs.Common.{◌≡◌, ℕ, zero, suc, ◌+◌, ◌-◌, Bool, true, false, List, [], ◌∷◌, ◌++◌, length, map, Option, Some, None, refl, sym, ap, subst}
use Rattle.std.specs.Prelude.{is_some, nat_le, option_map}
use Rattle.std.specs.List.{AllByRecursion, filter_map}
use Rattle.std.specs.Map.{lookup}
use Rattle.std.proofs.lemmas.Bool.{eq-eqb}
use Rattle.job_queue.specs.Jobs.{Jobs, same_number}
use Rattle.job_queue.specs.declared.queue.Running.{Running}
use Rattle.execution_messages.specs.Progress.{EndValue}
use Rattle.execution.specs.declared.orders.Order.TheVariants.{Kill}
use Rattle.execution.specs.Job.{JobValue, TaskValue}
use Rattle.execution.specs.Ordered.{orders_by, order_meant}
use Rattle.execution.specs.Orders.{OrderValue, start, order_of, orders_of, task_of, AreOrdered}
use Rattle.execution.specs.Steps.{StepValue, times_out, ends, starts, jobs_after_steps, timings_out, starts_of, starts_at, then_starts, ending_of}
use Rattle.execution.proofs.Turns.{steps-append}

abbrev Entry : Type 0
Entry = ℕ × Running JobValue

-- ---- a job that runs, and still runs when more do

abbrev RunsAmong : ℕ → List Entry → Type 0
RunsAmong n running = is_some (lookup (same_number n) running) ≡ true

found-first : (n : ℕ) (r : Entry) (rs : List Entry) → same_number n r.0 ≡ true → RunsAmong n (r ∷ rs)
found-first n r rs same = rw same refl

still-runs : (n : ℕ) (rs more : List Entry) → RunsAmong n rs → RunsAmong n (rs ++ more)
still-runs n [] more h = absurd (let no : false ≡ true = h in cc)
still-runs n (r ∷ rs) more h = go (same_number n r.0) refl (λ later. still-runs n rs more later) where
  go : (b : Bool) → same_number n r.0 ≡ b → (RunsAmong n rs → RunsAmong n (rs ++ more)) → RunsAmong n (r ∷ rs ++ more)
  go true same later = rw same refl
  go false other later = rw other (later (rw other at h))

last-runs : (r : Entry) (rs : List Entry) → RunsAmong r.0 (rs ++ r ∷ [])
last-runs r [] = found-first r.0 r [] (eq-eqb r.0 r.0 refl)
last-runs r (x ∷ rs) = go (same_number r.0 x.0) refl (last-runs r rs) where
  go : (b : Bool) → same_number r.0 x.0 ≡ b → RunsAmong r.0 (rs ++ r ∷ []) → RunsAmong r.0 (x ∷ rs ++ r ∷ [])
  go true same later = rw same refl
  go false other later = rw other later

-- ---- starts, one after another

abbrev waiting_with : Jobs JobValue → List (ℕ × JobValue) → Jobs JobValue
waiting_with jobs ws = record jobs { waiting = ws }

abbrev entry_of : ℕ → ℕ × JobValue → Entry
entry_of moment w = (w.0, record { deadline = moment + w.1.timeout; job = w.1 })

-- a job runs behind the others
abbrev with_running : Jobs JobValue → Entry → Jobs JobValue
with_running jobs r = record jobs { running = jobs.running ++ r ∷ [] }

-- the job that the step starts, if it starts one, is one of these that run
abbrev pub HasStarted : Jobs JobValue → StepValue → Type 0
HasStarted after (times_out n operation) = Unit {0}
HasStarted after (ends n operation) = Unit {0}
HasStarted after (starts n deadline operation) = RunsAmong n after.running

starts-leave : (most moment : ℕ) (ws : List (ℕ × JobValue)) (jobs : Jobs JobValue) (n : ℕ) → RunsAmong n jobs.running →
    RunsAmong n (jobs_after_steps (starts_of most moment ws) (waiting_with jobs ws)).running
starts-leave zero moment ws jobs n h = h
starts-leave (suc most) moment [] jobs n h = h
starts-leave (suc most) moment (w ∷ ws) jobs n h =
    starts-leave most moment ws (with_running jobs (entry_of moment w)) n (still-runs n jobs.running (entry_of moment w ∷ []) h)

starts-run : (most moment : ℕ) (ws : List (ℕ × JobValue)) (jobs : Jobs JobValue) →
    AllByRecursion (HasStarted (jobs_after_steps (starts_of most moment ws) (waiting_with jobs ws))) (starts_of most moment ws)
starts-run zero moment ws jobs = tt
starts-run (suc most) moment [] jobs = tt
starts-run (suc most) moment (w ∷ ws) jobs =
    let next = with_running jobs (entry_of moment w) in
    (starts-leave most moment ws next w.0 (last-runs (entry_of moment w) jobs.running), starts-run most moment ws next)

-- ---- the steps of an event

-- no job starts
abbrev pub IsEnd : StepValue → Type 0
IsEnd (times_out n operation) = Unit {0}
IsEnd (ends n operation) = Unit {0}
IsEnd (starts n deadline operation) = ⊥

ends-run : (after : Jobs JobValue) (step : StepValue) → IsEnd step → HasStarted after step
ends-run after (times_out n operation) h = tt
ends-run after (ends n operation) h = tt
ends-run after (starts n deadline operation) h = absurd h

then-run : (after : Jobs JobValue) (first more : List StepValue) → AllByRecursion IsEnd first → AllByRecursion (HasStarted after) more →
    AllByRecursion (HasStarted after) (first ++ more)
then-run after [] more h g = g
then-run after (s ∷ first) more h g = (ends-run after s h.0, then-run after first more h.1 g)

turn-runs : (slots moment : ℕ) (first : List StepValue) (jobs : Jobs JobValue) → AllByRecursion IsEnd first →
    AllByRecursion (HasStarted (jobs_after_steps (then_starts slots moment first jobs) jobs)) (then_starts slots moment first jobs)
turn-runs slots moment first jobs h =
    let mid : Jobs JobValue = jobs_after_steps first jobs in
    let all : List StepValue = then_starts slots moment first jobs in
    let started : AllByRecursion (HasStarted (jobs_after_steps (starts_at slots moment mid) mid)) (starts_at slots moment mid) =
    starts-run (slots - length mid.running) moment mid.waiting mid in
    then-run (jobs_after_steps all jobs) first (starts_at slots moment mid) h
    (subst (λ (js : Jobs JobValue). AllByRecursion (HasStarted js) (starts_at slots moment mid))
    (sym (steps-append first (starts_at slots moment mid) jobs)) started)

pub timings-are : (moment : ℕ) (rs : List Entry) → AllByRecursion IsEnd (timings_out moment rs)
timings-are moment [] = tt
timings-are moment (r ∷ rs) = go (nat_le r.1.deadline moment) refl (timings-are moment rs) where
  go : (b : Bool) → nat_le r.1.deadline moment ≡ b → AllByRecursion IsEnd (timings_out moment rs) →
      AllByRecursion IsEnd (timings_out moment (r ∷ rs))
  go true due later = rw due (tt, later)
  go false due later = rw due later

pub ending-is : (n : ℕ) (e : EndValue) (o : Option JobValue) → AllByRecursion IsEnd (ending_of n e o)
ending-is n e None = tt
ending-is n e (Some job) = (tt, tt)

-- ---- each order has its meaning

one-meant : (after : Jobs JobValue) (n : ℕ) → RunsAmong n after.running → (t : TaskValue) × (task_of n after ≡ Some t)
one-meant after n h = go (lookup (same_number n) after.running) refl where
  go : (o : Option (Running JobValue)) → lookup (same_number n) after.running ≡ o → (t : TaskValue) × (task_of n after ≡ Some t)
  go None none = absurd (let no : false ≡ true = rw none at h in cc)
  go (Some r) some = (r.job.task, rw some refl)

pub meant : (after : Jobs JobValue) (steps : List StepValue) → AllByRecursion (HasStarted after) steps →
    map (order_meant after) (orders_by steps) ≡ map Some (filter_map (order_of after) steps)
meant after [] h = refl
meant after (times_out n operation ∷ steps) h =
    ap (λ (os : List (Option OrderValue)). order_meant after (Kill n) ∷ os) (meant after steps h.1)
meant after (ends n operation ∷ steps) h = meant after steps h.1
meant after (starts n deadline operation ∷ steps) h =
    let t = one-meant after n h.0 in
    let here : order_of after (starts n deadline operation) ≡ Some (start n t.0) = ap (option_map (start n)) t.1 in
    rw here (ap (λ (os : List (Option OrderValue)). Some (start n t.0) ∷ os) (meant after steps h.1))

pub turn-meant : (slots moment : ℕ) (first : List StepValue) (jobs : Jobs JobValue) → AllByRecursion IsEnd first → let steps =
    then_starts slots moment first jobs in map (order_meant (jobs_after_steps steps jobs)) (orders_by steps)
    ≡ map Some (orders_of steps jobs)
turn-meant slots moment first jobs h =
    let steps : List StepValue = then_starts slots moment first jobs in
    meant (jobs_after_steps steps jobs) steps (turn-runs slots moment first jobs h)

-- ---- no order is lost

ordered : (after : Jobs JobValue) (steps : List StepValue) → AllByRecursion (HasStarted after) steps →
    AreOrdered after steps (filter_map (order_of after) steps)
ordered after [] h = tt
ordered after (times_out n operation ∷ steps) h = (refl, ordered after steps h.1)
ordered after (ends n operation ∷ steps) h = ordered after steps h.1
ordered after (starts n deadline operation ∷ steps) h =
    let t = one-meant after n h.0 in
    let here : order_of after (starts n deadline operation) ≡ Some (start n t.0) = ap (option_map (start n)) t.1 in
    rw here ((t.0, t.1, refl), ordered after steps h.1)

pub turn-ordered : (slots moment : ℕ) (first : List StepValue) (jobs : Jobs JobValue) → AllByRecursion IsEnd first → let steps =
    then_starts slots moment first jobs in AreOrdered (jobs_after_steps steps jobs) steps (orders_of steps jobs)
turn-ordered slots moment first jobs h =
    let steps : List StepValue = then_starts slots moment first jobs in
    ordered (jobs_after_steps steps jobs) steps (turn-runs slots moment first jobs h)
