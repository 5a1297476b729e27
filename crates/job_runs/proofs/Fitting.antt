-- Which jobs of an instance are to run, as the queue of its jobs changes.
use Rattle.std.proofs.Common.{◌≡◌, ◌≢◌, ℕ, ◌+◌, ◌<◌, ◌≤◌, Bool, true, false, List, [], ◌∷◌, ◌++◌, Option, Some, None, refl, sym, ap, subst, ◌∙◌, append_assoc, arith}
use Rattle.std.specs.Prelude.{option_map}
use Rattle.std.specs.List.{AllByRecursion}
use Rattle.std.specs.Map.{keys_of, lookup, remove_entry}
use Rattle.std.proofs.lemmas.Bool.{eqb-true, eqb-false, eq-eqb, ne_eqb}
use Rattle.std.proofs.lemmas.List.{map-append}
use Rattle.job_queue.specs.declared.queue.Running.{Running}
use Rattle.job_queue.specs.Jobs.{Jobs, no_jobs, same_number, jobs_after_push, jobs_after_done, jobs_after_end, jobs_without}
use Rattle.job_queue.specs.Order.{AreRising, open_numbers}
use Rattle.job_queue.proofs.Orders.{all-append, all-weaker, related-append, related-back, all-without, related-without}
use Rattle.execution.specs.Job.{JobValue, TaskValue}
use Rattle.execution.specs.Orders.{task_of}
use Rattle.job_runs.specs.Ran.{Order, not_yet, to_run, ended}

abbrev pub Entry : Type 0
Entry = ℕ × Running JobValue

-- what is to run under each number fits the jobs: the task of a job that runs, and nothing yet
-- under the number of one that waits, or that was not given
pub record Fits (plan : ℕ → Order) (jobs : Jobs JobValue) : Type 0 where
  pub rising : AreRising (open_numbers jobs)
  pub given : AllByRecursion (λ n. n < jobs.next) (open_numbers jobs)
  pub running : (n : ℕ) (t : TaskValue) → task_of n jobs ≡ Some t → plan n ≡ to_run t
  pub waiting : AllByRecursion (λ n. plan n ≡ not_yet) (keys_of jobs.waiting)
  pub later : (n : ℕ) → jobs.next ≤ n → plan n ≡ not_yet

pub fits_at_first : (plan : ℕ → Order) → ((n : ℕ) → plan n ≡ not_yet) → Fits plan no_jobs
fits_at_first plan none = record {
  rising = tt;
  given = tt;
  running = λ n t is. absurd (let no : None ≡ Some t = is in cc);
  waiting = tt;
  later = λ n past. none n;
}

-- .. and so does the same plan
pub fits_same : (plan next : ℕ → Order) (jobs : Jobs JobValue) → ((n : ℕ) → next n ≡ plan n) →
    Fits plan jobs → Fits next jobs
fits_same plan next jobs same h = record {
  rising = h.rising;
  given = h.given;
  running = λ n t is. same n ∙ h.running n t is;
  waiting = all-weaker (λ n. plan n ≡ not_yet) (λ n. next n ≡ not_yet) (λ n is. same n ∙ is) (keys_of jobs.waiting) h.waiting;
  later = λ n past. same n ∙ h.later n past;
}

-- ---- a new number

one_more : (next : ℕ) (ns : List ℕ) → AllByRecursion (λ n. n < next) ns →
    AllByRecursion (λ n. n < next + 1) ns
one_more next ns h = all-weaker (λ n. n < next) (λ n. n < next + 1) (λ n below. omega arith) ns h

keys_push : (n : ℕ) (job : JobValue) (ws : List (ℕ × JobValue)) →
    keys_of (ws ++ (n, job) ∷ []) ≡ keys_of ws ++ n ∷ []
keys_push n job ws = map-append (λ (e : ℕ × JobValue). e.0) ws ((n, job) ∷ [])

open_push : (job : JobValue) (jobs : Jobs JobValue) →
    open_numbers (jobs_after_push job jobs) ≡ open_numbers jobs ++ jobs.next ∷ []
open_push job jobs =
    ap (λ (ns : List ℕ). keys_of jobs.running ++ ns) (keys_push jobs.next job jobs.waiting)
    ∙ sym (append_assoc (keys_of jobs.running) (keys_of jobs.waiting) (jobs.next ∷ []))

pub fits_push : (plan : ℕ → Order) (job : JobValue) (jobs : Jobs JobValue) → Fits plan jobs →
    Fits plan (jobs_after_push job jobs)
fits_push plan job jobs h =
    let ns : List ℕ = open_numbers jobs in
    let last : ℕ = jobs.next in
    record {
      rising = rw (open_push job jobs) (related-append (λ a b. a < b) ns (last ∷ []) h.rising (tt, tt)
          (all-weaker (λ n. n < last) (λ n. AllByRecursion (λ b. n < b) (last ∷ [])) (λ n below. (below, tt)) ns h.given));
      given = rw (open_push job jobs) (all-append (λ n. n < last + 1) ns (last ∷ []) (one_more last ns h.given) (omega arith, tt));
      running = h.running;
      waiting = rw (keys_push last job jobs.waiting)
          (all-append (λ n. plan n ≡ not_yet) (keys_of jobs.waiting) (last ∷ []) h.waiting (h.later last (omega arith), tt));
      later = λ n past. h.later n (omega (arith, past));
    }

pub fits_done : (plan : ℕ → Order) (operation : List ℕ) (jobs : Jobs JobValue) → Fits plan jobs →
    Fits plan (jobs_after_done operation jobs)
fits_done plan operation jobs h = record {
  rising = h.rising;
  given = one_more jobs.next (open_numbers jobs) h.given;
  running = h.running;
  waiting = h.waiting;
  later = λ n past. h.later n (omega (arith, past));
}

-- ---- a job that is over

-- just under this number nothing is to run any more, if something was
pub record IsOver (n : ℕ) (plan next : ℕ → Order) : Type 0 where
  pub others : (m : ℕ) → m ≢ n → next m ≡ plan m
  pub over : next n ≡ ended (plan n)

still_not_yet : (n : ℕ) (plan next : ℕ → Order) → IsOver n plan next → (m : ℕ) → plan m ≡ not_yet →
    next m ≡ not_yet
still_not_yet n plan next h m is = go (same_number m n) refl where
  go : (b : Bool) → same_number m n ≡ b → next m ≡ not_yet
  go true here =
      let same : m ≡ n = eqb-true m n here in
      ap next same ∙ h.over ∙ ap ended (ap plan (sym same) ∙ is)
  go false other = h.others m (eqb-false m n other) ∙ is

none_above : (n : ℕ) (es : List Entry) (ys : List ℕ) →
    AllByRecursion (λ m. n < m) (keys_of es ++ ys) → lookup (same_number n) es ≡ None
none_above n [] ys h = refl
none_above n (e ∷ es) ys h =
    let less : n < e.0 = h.0 in
    let other : same_number n e.0 ≡ false = ne_eqb n e.0 (λ same. omega (arith, less, same)) in
    rw other (none_above n es ys h.1)

none_left : (n : ℕ) (es : List Entry) (ys : List ℕ) → AreRising (keys_of es ++ ys) →
    lookup (same_number n) (remove_entry (same_number n) es) ≡ None
none_left n [] ys h = refl
none_left n (e ∷ es) ys h = go (same_number n e.0) refl (none_left n es ys h.1) where
  go : (b : Bool) → same_number n e.0 ≡ b →
      lookup (same_number n) (remove_entry (same_number n) es) ≡ None →
      lookup (same_number n) (remove_entry (same_number n) (e ∷ es)) ≡ None
  go true here later =
      let same : e.0 ≡ n = sym (eqb-true n e.0 here) in
      rw here (none_above n es ys (subst (λ (k : ℕ). AllByRecursion (λ m. k < m) (keys_of es ++ ys)) same h.0))
  go false other later = rw other (rw other later)

lookup_without : (n m : ℕ) (es : List Entry) → same_number n m ≡ false →
    lookup (same_number n) (remove_entry (same_number m) es) ≡ lookup (same_number n) es
lookup_without n m [] apart = refl
lookup_without n m (e ∷ es) apart =
    go (same_number m e.0) (same_number n e.0) refl refl (lookup_without n m es apart) where
      go : (b c : Bool) → same_number m e.0 ≡ b → same_number n e.0 ≡ c →
          lookup (same_number n) (remove_entry (same_number m) es) ≡ lookup (same_number n) es →
          lookup (same_number n) (remove_entry (same_number m) (e ∷ es)) ≡ lookup (same_number n)
          (e ∷ es)
      go true true is here later = absurd (eqb-false n m apart (eqb-true n e.0 here ∙ sym (eqb-true m e.0 is)))
      go true false is here later = rw (is, here) refl
      go false true is here later = rw (is, here) refl
      go false false is here later = rw (is, here) later

abbrev task_in : Option (Running JobValue) → Option TaskValue
task_in o = option_map (λ job. job.task) (option_map (λ r. r.job) o)

pub fits_without : (n : ℕ) (plan next : ℕ → Order) (jobs : Jobs JobValue) → IsOver n plan next →
    Fits plan jobs → Fits next (jobs_without n jobs)
fits_without n plan next jobs over h = record {
  rising = related-without (λ a b. a < b) (same_number n) jobs.running (keys_of jobs.waiting) h.rising;
  given = all-without (λ m. m < jobs.next) (same_number n) jobs.running (keys_of jobs.waiting) h.given;
  running = λ m t is. go m t is (same_number m n) refl;
  waiting = all-weaker (λ m. plan m ≡ not_yet) (λ m. next m ≡ not_yet) (still_not_yet n plan next over) (keys_of jobs.waiting) h.waiting;
  later = λ m past. still_not_yet n plan next over m (h.later m past);
} where
  go : (m : ℕ) (t : TaskValue) → task_of m (jobs_without n jobs) ≡ Some t → (b : Bool) →
      same_number m n ≡ b → next m ≡ to_run t
  go m t is true here =
      let gone : task_of n (jobs_without n jobs) ≡ None = ap task_in (none_left n jobs.running (keys_of jobs.waiting) h.rising) in
      let there : task_of n (jobs_without n jobs) ≡ Some t =
      subst (λ (k : ℕ). task_of k (jobs_without n jobs) ≡ Some t) (eqb-true m n here) is in
      absurd (let no : None ≡ Some t = sym gone ∙ there in cc)
  go m t is false other = over.others m (eqb-false m n other)
      ∙ h.running m t (sym (ap task_in (lookup_without m n jobs.running other)) ∙ is)

pub fits_end : (n : ℕ) (operation : List ℕ) (plan next : ℕ → Order) (jobs : Jobs JobValue) →
    IsOver n plan next → Fits plan jobs → Fits next (jobs_after_end n operation jobs)
fits_end n operation plan next jobs over h =
    let f = fits_without n plan next jobs over h in
    record { rising = f.rising; given = f.given; running = f.running; waiting = f.waiting; later = f.later }

-- .. where none ran under it
pub fits_over : (n : ℕ) (plan next : ℕ → Order) (jobs : Jobs JobValue) → IsOver n plan next →
    task_of n jobs ≡ None → Fits plan jobs → Fits next jobs
fits_over n plan next jobs over none h = record {
  rising = h.rising;
  given = h.given;
  running = λ m t is. go m t is (same_number m n) refl;
  waiting = all-weaker (λ m. plan m ≡ not_yet) (λ m. next m ≡ not_yet) (still_not_yet n plan next over) (keys_of jobs.waiting) h.waiting;
  later = λ m past. still_not_yet n plan next over m (h.later m past);
} where
  go : (m : ℕ) (t : TaskValue) → task_of m jobs ≡ Some t → (b : Bool) → same_number m n ≡ b →
      next m ≡ to_run t
  go m t is true here =
      let there : task_of n jobs ≡ Some t = subst (λ (k : ℕ). task_of k jobs ≡ Some t) (eqb-true m n here) is in
      absurd (let no : None ≡ Some t = sym none ∙ there in cc)
  go m t is false other = over.others m (eqb-false m n other) ∙ h.running m t is

-- ---- a job that starts

-- just under this number this task is to run from now on
pub record IsStarted (n : ℕ) (t : TaskValue) (plan next : ℕ → Order) : Type 0 where
  pub others : (m : ℕ) → m ≢ n → next m ≡ plan m
  pub started : next n ≡ to_run t

abbrev pub waiting_with : Jobs JobValue → List (ℕ × JobValue) → Jobs JobValue
waiting_with jobs ws = record jobs { waiting = ws }

-- a job runs behind the others
abbrev pub with_running : Jobs JobValue → Entry → Jobs JobValue
with_running jobs r = record jobs { running = jobs.running ++ r ∷ [] }

all_at : (P : ℕ → Type 0) (xs : List ℕ) (n : ℕ) (ys : List ℕ) → AllByRecursion P (xs ++ n ∷ ys) →
    P n
all_at P [] n ys h = h.0
all_at P (x ∷ xs) n ys h = all_at P xs n ys h.1

none_below : (n : ℕ) (es : List Entry) (ys : List ℕ) → AreRising (keys_of es ++ n ∷ ys) →
    lookup (same_number n) es ≡ None
none_below n [] ys h = refl
none_below n (e ∷ es) ys h =
    let less : e.0 < n = all_at (λ m. e.0 < m) (keys_of es) n ys h.0 in
    let other : same_number n e.0 ≡ false = ne_eqb n e.0 (λ same. omega (arith, less, same)) in
    rw other (none_below n es ys h.1)

lookup_last : (n : ℕ) (es : List Entry) (r : Running JobValue) → lookup (same_number n) es ≡ None →
    lookup (same_number n) (es ++ (n, r) ∷ []) ≡ Some r
lookup_last n [] r none = let same : same_number n n ≡ true = eq-eqb n n refl in rw same refl
lookup_last n (e ∷ es) r none = go (same_number n e.0) refl (lookup_last n es r) where
  go : (b : Bool) → same_number n e.0 ≡ b →
      (lookup (same_number n) es ≡ None → lookup (same_number n) (es ++ (n, r) ∷ []) ≡ Some r) →
      lookup (same_number n) (e ∷ es ++ (n, r) ∷ []) ≡ Some r
  go true same later = absurd (let no : Some e.1 ≡ None = rw same at none in cc)
  go false apart later = rw apart (later (rw apart at none))

lookup_behind : (n : ℕ) (es : List Entry) (e : Entry) → same_number n e.0 ≡ false →
    lookup (same_number n) (es ++ e ∷ []) ≡ lookup (same_number n) es
lookup_behind n [] e other = rw other refl
lookup_behind n (x ∷ es) e other = go (same_number n x.0) refl (lookup_behind n es e other) where
  go : (b : Bool) → same_number n x.0 ≡ b →
      lookup (same_number n) (es ++ e ∷ []) ≡ lookup (same_number n) es →
      lookup (same_number n) (x ∷ es ++ e ∷ []) ≡ lookup (same_number n) (x ∷ es)
  go true same later = rw same refl
  go false apart later = rw apart later

lookup_front : (n : ℕ) (es more : List Entry) (r : Running JobValue) →
    lookup (same_number n) es ≡ Some r → lookup (same_number n) (es ++ more) ≡ Some r
lookup_front n [] more r is = absurd (let no : None ≡ Some r = is in cc)
lookup_front n (e ∷ es) more r is = go (same_number n e.0) refl (lookup_front n es more r) where
  go : (b : Bool) → same_number n e.0 ≡ b →
      (lookup (same_number n) es ≡ Some r → lookup (same_number n) (es ++ more) ≡ Some r) →
      lookup (same_number n) (e ∷ es ++ more) ≡ Some r
  go true same later = rw same (rw same at is)
  go false apart later = rw apart (later (rw apart at is))

-- a job that runs still does when another starts
pub task_stays : (n : ℕ) (t : TaskValue) (jobs : Jobs JobValue) (r : Entry) →
    task_of n jobs ≡ Some t → task_of n (with_running jobs r) ≡ Some t
task_stays n t jobs r is = go (lookup (same_number n) jobs.running) refl is where
  go : (o : Option (Running JobValue)) → lookup (same_number n) jobs.running ≡ o →
      task_in o ≡ Some t → task_of n (with_running jobs r) ≡ Some t
  go None none found = absurd (let no : None ≡ Some t = found in cc)
  go (Some x) some found = ap task_in (lookup_front n jobs.running (r ∷ []) x some) ∙ found

-- the number of a job that waits first
front_apart : (w : ℕ × JobValue) (ws : List (ℕ × JobValue)) (plan next : ℕ → Order) →
    ((m : ℕ) → m ≢ w.0 → next m ≡ plan m) → (ns : List ℕ) → AllByRecursion (λ m. w.0 < m) ns →
    AllByRecursion (λ m. plan m ≡ not_yet) ns → AllByRecursion (λ m. next m ≡ not_yet) ns
front_apart w ws plan next others [] above h = tt
front_apart w ws plan next others (n ∷ ns) above h =
    let less : w.0 < n = above.0 in
    (others n (λ same. omega (arith, less, same)) ∙ h.0, front_apart w ws plan next others ns above.1 h.1)

pub started_runs : (w : ℕ × JobValue) (ws : List (ℕ × JobValue)) (plan : ℕ → Order)
    (jobs : Jobs JobValue) (deadline : ℕ) → Fits plan (waiting_with jobs (w ∷ ws)) →
    task_of w.0 (with_running jobs (w.0, record { deadline = deadline; job = w.1 })) ≡ Some w.1.task
started_runs w ws plan jobs deadline h =
    ap task_in (lookup_last w.0 jobs.running (record { deadline = deadline; job = w.1 })
    (none_below w.0 jobs.running (keys_of ws) h.rising))

pub fits_start : (w : ℕ × JobValue) (ws : List (ℕ × JobValue)) (plan next : ℕ → Order)
    (jobs : Jobs JobValue) (deadline : ℕ) → IsStarted w.0 w.1.task plan next →
    Fits plan (waiting_with jobs (w ∷ ws)) →
    Fits next (waiting_with (with_running jobs (w.0, record { deadline = deadline; job = w.1 })) ws)
fits_start w ws plan next jobs deadline started h =
    let entry : Entry = (w.0, record { deadline = deadline; job = w.1 }) in
    let same : keys_of (jobs.running ++ entry ∷ []) ++ keys_of ws ≡ keys_of jobs.running ++ w.0 ∷ keys_of ws =
    ap (λ (ns : List ℕ). ns ++ keys_of ws) (map-append (λ (e : Entry). e.0) jobs.running (entry ∷ []))
    ∙ append_assoc (keys_of jobs.running) (w.0 ∷ []) (keys_of ws) in
    record {
      rising = rw same h.rising;
      given = rw same h.given;
      running = λ m t is. go m t is (same_number m w.0) refl;
      waiting = front_apart w ws plan next started.others (keys_of ws)
          (related-back (λ a b. a < b) (keys_of jobs.running) (w.0 ∷ keys_of ws) h.rising).0 h.waiting.1;
      later = λ m past. (let below : w.0 < jobs.next = all_at (λ k. k < jobs.next) (keys_of jobs.running) w.0 (keys_of ws) h.given in
          started.others m (λ is. omega (arith, below, past, is)) ∙ h.later m past);
    } where
      go : (m : ℕ) (t : TaskValue) →
          task_of m (with_running jobs (w.0, record { deadline = deadline; job = w.1 })) ≡ Some t →
          (b : Bool) → same_number m w.0 ≡ b → next m ≡ to_run t
      go m t is true here =
          let number : m ≡ w.0 = eqb-true m w.0 here in
          let found : Some w.1.task ≡ Some t = sym (started_runs w ws plan jobs deadline h)
          ∙ subst (λ (k : ℕ). task_of k (with_running jobs (w.0, record { deadline = deadline; job = w.1 })) ≡ Some t) number is in
          let task : w.1.task ≡ t = cc in
          ap next number ∙ started.started ∙ ap to_run task
      go m t is false other = started.others m (eqb-false m w.0 other)
          ∙ h.running m t (sym (ap task_in (lookup_behind m jobs.running (w.0, record { deadline = deadline; job = w.1 }) other)) ∙ is)
