-- The orders of an instance's turns, and what is to run by them.
use Rattle.std.proofs.Common.{◌≡◌, ◌≢◌, ℕ, zero, suc, ◌+◌, ◌-◌, Bool, true, false, List, [], ◌∷◌, ◌++◌, length, map, Some, refl, sym, ap, subst, ◌∙◌, append-nil, append_assoc}
use Rattle.std.specs.Prelude.{◌==◌, ◌&&◌, nat_le}
use Rattle.std.specs.List.{AllByRecursion, filter_map}
use Rattle.std.proofs.lemmas.Bool.{ne_eqb}
use Rattle.std.proofs.lemmas.List.{map-append}
use Rattle.std.proofs.lemmas.List.Elements.{filter_map-append}
use Rattle.std.proofs.lemmas.List.Sums.{fold-append}
use Rattle.job_queue.specs.Jobs.{Jobs, jobs_after_end}
use Rattle.execution.specs.Job.{JobValue, TaskValue}
use Rattle.execution.specs.Orders.{start, kill, order_of, orders_of, task_of}
use Rattle.execution.specs.Steps.{StepValue, times_out, ends, starts, jobs_after_steps, timings_out, starts_of, starts_at, then_starts}
use Rattle.execution.proofs.Turns.{steps-append}
use Rattle.serve.specs.RunEvents.{RunEvent, ordered}
use Rattle.job_runs.specs.Keys.{is_key}
use Rattle.job_runs.specs.Ran.{Order, not_yet, ended, key_of, told_of, order_by, order_on, order_in, AreOfJobsBehind}
use Rattle.job_runs.proofs.Ran.{key_same, cond_true, cond_false}
use Rattle.job_runs.proofs.Fitting.{Entry, Fits, fits_end, fits_start, IsOver, IsStarted, waiting_with, with_running, started_runs, task_stays}

-- ---- what is to run, event after event

-- under each number of an instance, behind these events
abbrev pub plan_of : ℕ → List RunEvent → ℕ → Order
plan_of i before n = order_in (key_of i n) before

and_false : (b : Bool) → (b && false) ≡ false
and_false true = refl
and_false false = refl

other_job : (i m n : ℕ) → m ≢ n → is_key (key_of i m) (key_of i n) ≡ false
other_job i m n other =
    let apart : (n == m) ≡ false = ne_eqb n m (λ same. other (sym same)) in
    ap (λ (b : Bool). (i == i) && b) apart ∙ and_false (i == i)

other_instance : (i j m n : ℕ) → i ≢ j → is_key (key_of i m) (key_of j n) ≡ false
other_instance i j m n other =
    let apart : (j == i) ≡ false = ne_eqb j i (λ same. other (sym same)) in
    ap (λ (b : Bool). b && (n == m)) apart

plan_more : (i n : ℕ) (before : List RunEvent) (e : RunEvent) →
    plan_of i (before ++ e ∷ []) n ≡ order_on (key_of i n) (plan_of i before n) e
plan_more i n before e = fold-append (order_on (key_of i n)) not_yet before (e ∷ [])

-- an event of the job of a number says what is to run under that number, and under no other
pub plan_own : (i n : ℕ) (before : List RunEvent) (e : RunEvent) → told_of e ≡ key_of i n →
    plan_of i (before ++ e ∷ []) n ≡ order_by (plan_of i before n) e
plan_own i n before e own =
    plan_more i n before e
    ∙ cond_true (is_key (key_of i n) (told_of e)) (order_by (plan_of i before n) e) (plan_of i before n)
    (ap (is_key (key_of i n)) own ∙ key_same (key_of i n))

pub plan_beside : (i n m : ℕ) (before : List RunEvent) (e : RunEvent) → told_of e ≡ key_of i n →
    m ≢ n → plan_of i (before ++ e ∷ []) m ≡ plan_of i before m
plan_beside i n m before e own other =
    plan_more i m before e
    ∙ cond_false (is_key (key_of i m) (told_of e)) (order_by (plan_of i before m) e) (plan_of i before m)
    (ap (is_key (key_of i m)) own ∙ other_job i m n other)

pub plan_apart : (i j n m : ℕ) (before : List RunEvent) (e : RunEvent) → told_of e ≡ key_of j n →
    i ≢ j → plan_of i (before ++ e ∷ []) m ≡ plan_of i before m
plan_apart i j n m before e own other =
    plan_more i m before e
    ∙ cond_false (is_key (key_of i m) (told_of e)) (order_by (plan_of i before m) e) (plan_of i before m)
    (ap (is_key (key_of i m)) own ∙ other_instance i j m n other)

pub is_over : (i n : ℕ) (before : List RunEvent) (e : RunEvent) → told_of e ≡ key_of i n →
    ((s : Order) → order_by s e ≡ ended s) →
    IsOver n (plan_of i before) (plan_of i (before ++ e ∷ []))
is_over i n before e own over = record {
  others = λ m other. plan_beside i n m before e own other;
  over = plan_own i n before e own ∙ over (plan_of i before n);
}

is_started : (i n : ℕ) (t : TaskValue) (before : List RunEvent) →
    IsStarted n t (plan_of i before) (plan_of i (before ++ ordered i (start n t) ∷ []))
is_started i n t before = record {
  others = λ m other. plan_beside i n m before (ordered i (start n t)) refl other;
  started = plan_own i n before (ordered i (start n t)) refl;
}

-- ---- events of the runs that are right, and what they leave to run

-- behind those before these are of jobs; and then the plan fits
pub record Leads (i : ℕ) (before es : List RunEvent) (jobs : Jobs JobValue) : Type 0 where
  pub right : AreOfJobsBehind before es
  pub fits : Fits (plan_of i (before ++ es)) jobs

pub leads_nothing : (i : ℕ) (before : List RunEvent) (jobs : Jobs JobValue) →
    Fits (plan_of i before) jobs → Leads i before [] jobs
leads_nothing i before jobs h =
    record { right = tt; fits = subst (λ (es : List RunEvent). Fits (plan_of i es) jobs) (sym (append-nil before)) h }

then_lead : (i : ℕ) (before : List RunEvent) (e : RunEvent) (es : List RunEvent)
    (jobs : Jobs JobValue) → AreOfJobsBehind before (e ∷ []) → Leads i (before ++ e ∷ []) es jobs →
    Leads i before (e ∷ es) jobs
then_lead i before e es jobs one more = record {
  right = (one.0, more.right);
  fits = subst (λ (xs : List RunEvent). Fits (plan_of i xs) jobs) (append_assoc before (e ∷ []) es) more.fits;
}

jobs_append : (before xs ys : List RunEvent) → AreOfJobsBehind before xs →
    AreOfJobsBehind (before ++ xs) ys → AreOfJobsBehind before (xs ++ ys)
jobs_append before [] ys h k =
    subst (λ (b : List RunEvent). AreOfJobsBehind b ys) (append-nil before) k
jobs_append before (x ∷ xs) ys h k = (
  h.0,
  jobs_append (before ++ x ∷ []) xs ys h.1
      (subst (λ (b : List RunEvent). AreOfJobsBehind b ys) (sym (append_assoc before (x ∷ []) xs)) k),
)

lead_both : (i : ℕ) (before xs ys : List RunEvent) (mid after : Jobs JobValue) →
    Leads i before xs mid → Leads i (before ++ xs) ys after → Leads i before (xs ++ ys) after
lead_both i before xs ys mid after one more = record {
  right = jobs_append before xs ys one.right more.right;
  fits = subst (λ (zs : List RunEvent). Fits (plan_of i zs) after) (append_assoc before xs ys) more.fits;
}

-- ---- jobs that time out

abbrev TimesOut : StepValue → Type 0
TimesOut (times_out n operation) = Unit {0}
TimesOut (ends n operation) = ⊥
TimesOut (starts n deadline operation) = ⊥

timings_are : (moment : ℕ) (rs : List Entry) → AllByRecursion TimesOut (timings_out moment rs)
timings_are moment [] = tt
timings_are moment (r ∷ rs) = go (nat_le r.1.deadline moment) refl (timings_are moment rs) where
  go : (b : Bool) → nat_le r.1.deadline moment ≡ b →
      AllByRecursion TimesOut (timings_out moment rs) →
      AllByRecursion TimesOut (timings_out moment (r ∷ rs))
  go true due later = rw due (tt, later)
  go false due later = rw due later

-- the events of the orders of steps, where these are the jobs after all
abbrev pub events_by : ℕ → Jobs JobValue → List StepValue → List RunEvent
events_by i after steps = map (ordered i) (filter_map (order_of after) steps)

events_both : (i : ℕ) (after : Jobs JobValue) (xs ys : List StepValue) →
    events_by i after (xs ++ ys) ≡ events_by i after xs ++ events_by i after ys
events_both i after xs ys =
    ap (map (ordered i)) (filter_map-append (order_of after) xs ys)
    ∙ map-append (ordered i) (filter_map (order_of after) xs) (filter_map (order_of after) ys)

late_lead : (i : ℕ) (after : Jobs JobValue) (steps : List StepValue) (jobs : Jobs JobValue)
    (before : List RunEvent) → AllByRecursion TimesOut steps → Fits (plan_of i before) jobs →
    Leads i before (events_by i after steps) (jobs_after_steps steps jobs)
late_lead i after [] jobs before late h = leads_nothing i before jobs h
late_lead i after (times_out n operation ∷ steps) jobs before late h =
    let e : RunEvent = ordered i (kill n) in
    let next : Jobs JobValue = jobs_after_end n operation jobs in
    let fits : Fits (plan_of i (before ++ e ∷ [])) next =
    fits_end n operation (plan_of i before) (plan_of i (before ++ e ∷ [])) jobs (is_over i n before e refl (λ s. refl)) h in
    then_lead i before e (events_by i after steps) (jobs_after_steps steps next) (tt, tt)
    (late_lead i after steps next (before ++ e ∷ []) late.1 fits)
late_lead i after (ends n operation ∷ steps) jobs before late h = absurd late.0
late_lead i after (starts n deadline operation ∷ steps) jobs before late h = absurd late.0

-- ---- jobs that start

-- a job that runs still does when these have started
still_runs : (n : ℕ) (t : TaskValue) (most moment : ℕ) (ws : List (ℕ × JobValue))
    (jobs : Jobs JobValue) → task_of n jobs ≡ Some t →
    task_of n (jobs_after_steps (starts_of most moment ws) (waiting_with jobs ws)) ≡ Some t
still_runs n t zero moment ws jobs is = is
still_runs n t (suc most) moment [] jobs is = is
still_runs n t (suc most) moment (w ∷ ws) jobs is =
    let entry : Entry = (w.0, record { deadline = moment + w.1.timeout; job = w.1 }) in
    still_runs n t most moment ws (with_running jobs entry) (task_stays n t jobs entry is)

starts_lead : (i most moment : ℕ) (ws : List (ℕ × JobValue)) (jobs after : Jobs JobValue)
    (before : List RunEvent) →
    after ≡ jobs_after_steps (starts_of most moment ws) (waiting_with jobs ws) →
    Fits (plan_of i before) (waiting_with jobs ws) →
    Leads i before (events_by i after (starts_of most moment ws))
    (jobs_after_steps (starts_of most moment ws) (waiting_with jobs ws))
starts_lead i zero moment ws jobs after before is h =
    leads_nothing i before (waiting_with jobs ws) h
starts_lead i (suc most) moment [] jobs after before is h =
    leads_nothing i before (waiting_with jobs []) h
starts_lead i (suc most) moment (w ∷ ws) jobs after before is h =
    let n : ℕ = w.0 in
    let t : TaskValue = w.1.task in
    let deadline : ℕ = moment + w.1.timeout in
    let e : RunEvent = ordered i (start n t) in
    let next : Jobs JobValue = with_running jobs (n, record { deadline = deadline; job = w.1 }) in
    let later : List RunEvent = events_by i after (starts_of most moment ws) in
    let fits : Fits (plan_of i (before ++ e ∷ [])) (waiting_with next ws) =
    fits_start w ws (plan_of i before) (plan_of i (before ++ e ∷ [])) jobs deadline (is_started i n t before) h in
    let runs : task_of n after ≡ Some t = ap (task_of n) is
    ∙ still_runs n t most moment ws next (started_runs w ws (plan_of i before) jobs deadline h) in
    let more : Leads i (before ++ e ∷ []) later (jobs_after_steps (starts_of most moment ws) (waiting_with next ws)) =
    starts_lead i most moment ws next after (before ++ e ∷ []) is fits in
    rw runs (then_lead i before e later (jobs_after_steps (starts_of most moment ws) (waiting_with next ws)) (h.waiting.0, tt) more)

-- ---- a turn

-- some jobs time out, and others start
pub turn_leads : (i slots moment : ℕ) (first : List StepValue) (jobs : Jobs JobValue)
    (before : List RunEvent) → AllByRecursion TimesOut first → Fits (plan_of i before) jobs →
    Leads i before (map (ordered i) (orders_of (then_starts slots moment first jobs) jobs))
    (jobs_after_steps (then_starts slots moment first jobs) jobs)
turn_leads i slots moment first jobs before late h =
    let mid : Jobs JobValue = jobs_after_steps first jobs in
    let more : List StepValue = starts_at slots moment mid in
    let after : Jobs JobValue = jobs_after_steps (first ++ more) jobs in
    let same : after ≡ jobs_after_steps more mid = steps-append first more jobs in
    let one : Leads i before (events_by i after first) mid = late_lead i after first jobs before late h in
    let both : Leads i before (events_by i after first ++ events_by i after more) (jobs_after_steps more mid) =
    lead_both i before (events_by i after first) (events_by i after more) mid (jobs_after_steps more mid) one
    (starts_lead i (slots - length mid.running) moment mid.waiting mid after (before ++ events_by i after first) same one.fits) in
    subst (λ (js : Jobs JobValue). Leads i before (events_by i after (first ++ more)) js) (sym same)
    (subst (λ (es : List RunEvent). Leads i before es (jobs_after_steps more mid)) (sym (events_both i after first more)) both)

pub tick_leads : (i slots moment : ℕ) (jobs : Jobs JobValue) (before : List RunEvent) →
    Fits (plan_of i before) jobs →
    Leads i before
    (map (ordered i) (orders_of (then_starts slots moment (timings_out moment jobs.running) jobs) jobs))
    (jobs_after_steps (then_starts slots moment (timings_out moment jobs.running) jobs) jobs)
tick_leads i slots moment jobs before h =
    turn_leads i slots moment (timings_out moment jobs.running) jobs before (timings_are moment jobs.running) h

-- the job of a number ends, of which it was told
pub end_leads : (i slots moment n : ℕ) (operation : List ℕ) (jobs : Jobs JobValue)
    (before : List RunEvent) → Fits (plan_of i before) (jobs_after_end n operation jobs) →
    Leads i before
    (map (ordered i) (orders_of (then_starts slots moment (ends n operation ∷ []) jobs) jobs))
    (jobs_after_steps (then_starts slots moment (ends n operation ∷ []) jobs) jobs)
end_leads i slots moment n operation jobs before h =
    let mid : Jobs JobValue = jobs_after_end n operation jobs in
    let more : List StepValue = starts_at slots moment mid in
    starts_lead i (slots - length mid.running) moment mid.waiting mid (jobs_after_steps more mid) before refl h
