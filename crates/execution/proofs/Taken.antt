-- Steps that are made ready from a queue of jobs, and taken.
use Rattle.std.proofs.Common.{◌≡◌, ℕ, zero, suc, ◌+◌, ◌-◌, ◌<◌, ◌≤◌, Bool, true, false, List, [], ◌∷◌, ◌++◌, length, drop, take, get_or, map, Option, Some, None, refl, sym, ap, subst, ◌∙◌, append_assoc, arith}
use Rattle.std.specs.Prelude.{nat_le, nat_lt, option_map, slice_get}
use Rattle.std.proofs.Math.Seq.{drop-cons}
use Rattle.std.proofs.lemmas.Bool.Decides.{nat_tests}
use Rattle.std.proofs.lemmas.Option.{get_or_from_slice_get, slice_get-get_or, slice_get_past}
use Rattle.std.specs.List.{AllByRecursion, filter_map}
use Rattle.std.specs.Map.{keys_of, lookup, remove_entry}
use Rattle.std.proofs.lemmas.List.{append-nil, length-map, take_all}
use Rattle.blob_pool.specs.Slots.{Slots, count_at}
use Rattle.blob_pool.specs.Moves.{Holders, Moves, no_holders}
use Rattle.blob_pool.proofs.Moves.{moves_more}
use Rattle.job_queue.specs.Jobs.{Jobs, same_number, jobs_after_start, jobs_after_end, jobs_without, running_job}
use Rattle.job_queue.specs.Changes.{IsRunning}
use Rattle.job_queue.specs.Order.{AreJobs, AreRising, IsNone, open_numbers}
use Rattle.job_queue.specs.declared.queue.Running.{Running}
use Rattle.job_queue.specs.declared.queue.TheConstants.{MOST_RUNNING, MOST_WAITING}
use Rattle.job_queue.proofs.Sums.{sum-end, sum-start}
use Rattle.execution.specs.declared.job.Job.{Job}
use Rattle.execution.specs.Job.{JobValue}
use Rattle.execution.specs.InPool.{job_in, job_holders, jobs_in, jobs_holders, waiting_in, running_in}
use Rattle.execution.specs.Steps.{StepValue, ends, ending_of, start_of, starts_of, timings_out}
use Rattle.execution.specs.Taking.{EndJobs}
use Rattle.execution_messages.specs.Progress.{EndValue, completed_text}
use Rattle.execution.proofs.Timings.{outcome-ends, tick-ends}
use Rattle.execution.proofs.Calling.{jobs_same, running_found, running_job_in}

some-at : {X : Type 0} (xs : List X) (i : ℕ) → i < length xs → None ≡ slice_get xs i → ⊥
some-at [] i within none = omega arith
some-at (x ∷ xs) i within none = let there : slice_get (x ∷ xs) i ≡ Some (get_or (x ∷ xs) i x) = slice_get-get_or (x ∷ xs) i x within in
    let no : None ≡ Some (get_or (x ∷ xs) i x) = none ∙ there in cc

drop_all : {X : Type 0} (xs : List X) (i : ℕ) → length xs ≤ i → drop i xs ≡ []
drop_all [] zero h = refl
drop_all [] (suc i) h = refl
drop_all (x ∷ xs) zero h = absurd (omega arith)
drop_all (x ∷ xs) (suc i) h = drop_all xs i (omega arith)

-- ---- what is shown of jobs is in order where they are

keys-waiting : (p : Slots) (ws : List (ℕ × Job)) → keys_of (map (waiting_in p) ws) ≡ keys_of ws
keys-waiting p [] = refl
keys-waiting p (w ∷ ws) = ap (λ (ns : List ℕ). w.0 ∷ ns) (keys-waiting p ws)

keys-running : (p : Slots) (rs : List (ℕ × Running Job)) → keys_of (map (running_in p) rs) ≡ keys_of rs
keys-running p [] = refl
keys-running p (r ∷ rs) = ap (λ (ns : List ℕ). r.0 ∷ ns) (keys-running p rs)

pub numbers-shown : (p : Slots) (jobs : Jobs Job) → open_numbers (jobs_in p jobs) ≡ open_numbers jobs
numbers-shown p jobs =
    ap (λ (ns : List ℕ). ns ++ keys_of (map (waiting_in p) jobs.waiting)) (keys-running p jobs.running)
    ∙ ap (λ (ns : List ℕ). keys_of jobs.running ++ ns) (keys-waiting p jobs.waiting)

pub as-many-run : (p : Slots) (jobs : Jobs Job) → length (jobs_in p jobs).running ≡ length jobs.running
as-many-run p jobs = length-map jobs.running (running_in p)

as-many-wait : (p : Slots) (jobs : Jobs Job) → length (jobs_in p jobs).waiting ≡ length jobs.waiting
as-many-wait p jobs = length-map jobs.waiting (waiting_in p)

no-more : (a b most : ℕ) → a ≡ b → b ≤ most → a ≤ most
no-more a b most is few = omega arith

pub shown-in-order : (p : Slots) (jobs : Jobs Job) → AreJobs jobs → AreJobs (jobs_in p jobs)
shown-in-order p jobs h =
    let same : open_numbers jobs ≡ open_numbers (jobs_in p jobs) = sym (numbers-shown p jobs) in
    record {
      rising = subst (λ (ns : List ℕ). AreRising ns) same h.rising;
      given = subst (λ (ns : List ℕ). AllByRecursion (λ n. n < jobs.next) ns) same h.given;
      ended_given = h.ended_given;
      ended_once = h.ended_once;
      ended_apart = subst (λ (ns : List ℕ). AllByRecursion (IsNone ns) (keys_of jobs.ended)) same h.ended_apart;
      few_numbers = h.few_numbers;
      few_waiting = no-more _ _ MOST_WAITING (as-many-wait p jobs) h.few_waiting;
      few_running = no-more _ _ MOST_RUNNING (as-many-run p jobs) h.few_running;
      few_ended = h.few_ended;
    }

pub shown-running : (p : Slots) (n : ℕ) (jobs : Jobs Job) → running_job n (jobs_in p jobs) ≡ option_map (job_in p) (running_job n jobs)
shown-running p n jobs = ap (option_map (λ r. r.job)) (running_found p n jobs.running) ∙ go (lookup (same_number n) jobs.running) where
  go : (o : Option (Running Job)) → option_map (λ r. r.job) (option_map (running_job_in p) o)
      ≡ option_map (job_in p) (option_map (λ r. r.job) o)
  go None = refl
  go (Some r) = refl

-- ---- the steps of those that start, one after another

within_of : {X : Type 0} (xs : List X) (i : ℕ) (x : X) → Some x ≡ slice_get xs i → i < length xs
within_of xs i x is = go (nat_lt i (length xs)) refl where
  go : (b : Bool) → nat_lt i (length xs) ≡ b → i < length xs
  go true within = grind (arith, nat_tests, within)
  go false out = absurd (let past : length xs ≤ i = grind (arith, nat_tests, out) in let no : Some x ≡ None =
      is ∙ slice_get_past xs i past in cc)

next_at : {X : Type 0} (xs : List X) (i : ℕ) (x : X) → Some x ≡ slice_get xs i → drop i xs ≡ x ∷ drop (i + 1) xs
next_at {X} xs i x is =
    let first : get_or xs i x ≡ x = get_or_from_slice_get xs i x x (sym is) in
    let after : suc i ≡ i + 1 = omega arith in
    drop-cons xs i x (within_of xs i x is) ∙ ap (λ (y : X). y ∷ drop (suc i) xs) first ∙ ap (λ (n : ℕ). x ∷ drop n xs) after

pub starts_next : (p : Slots) (moment n place : ℕ) (ws : List (ℕ × Job)) (w : ℕ × Job) → Some w ≡ slice_get ws place → 0 < n →
    starts_of n moment (map (waiting_in p) (drop place ws))
    ≡ start_of moment (waiting_in p w) ∷ starts_of (n - 1) moment (map (waiting_in p) (drop (place + 1) ws))
starts_next p moment zero place ws w is more = absurd (omega arith)
starts_next p moment (suc m) place ws w is more =
    let less : m ≡ suc m - 1 = omega arith in
    ap (λ (vs : List (ℕ × Job)). starts_of (suc m) moment (map (waiting_in p) vs)) (next_at ws place w is)
    ∙ ap (λ (n : ℕ). start_of moment (waiting_in p w) ∷ starts_of n moment (map (waiting_in p) (drop (place + 1) ws))) less

pub starts_end : (p : Slots) (moment n place : ℕ) (ws : List (ℕ × Job)) → None ≡ slice_get ws place →
    starts_of n moment (map (waiting_in p) (drop place ws)) ≡ []
starts_end p moment n place ws none =
    let past : drop place ws ≡ [] = go (nat_le (length ws) place) refl in
    ap (λ (vs : List (ℕ × Job)). starts_of n moment (map (waiting_in p) vs)) past ∙ nothing n where
      nothing : (n : ℕ) → starts_of n moment [] ≡ []
      nothing zero = refl
      nothing (suc n) = refl

      go : (b : Bool) → nat_le (length ws) place ≡ b → drop place ws ≡ []
      go true past = drop_all ws place (grind (arith, nat_tests, past))
      go false within =
          absurd (let inside : place < length ws = grind (arith, nat_tests, within) in
          some-at ws place inside none)

pub starts_more : (p : Slots) (moment most place : ℕ) (ws : List (ℕ × Job)) (w : ℕ × Job) (old new all : List StepValue) (s : StepValue) →
    Some w ≡ slice_get ws place → place < most → s ≡ start_of moment (waiting_in p w) → new ≡ old ++ s ∷ [] →
    old ++ starts_of (most - place) moment (map (waiting_in p) (drop place ws)) ≡ all →
    new ++ starts_of (most - (place + 1)) moment (map (waiting_in p) (drop (place + 1) ws)) ≡ all
starts_more p moment most place ws w old new all s is less same pushed h =
    let rest : List StepValue = starts_of (most - (place + 1)) moment (map (waiting_in p) (drop (place + 1) ws)) in
    let left : most - place - 1 ≡ most - (place + 1) = omega arith in
    let next : starts_of (most - place) moment (map (waiting_in p) (drop place ws)) ≡ s ∷ rest =
    starts_next p moment (most - place) place ws w is (omega arith)
    ∙ ap (λ (n : ℕ). start_of moment (waiting_in p w) ∷ starts_of n moment (map (waiting_in p) (drop (place + 1) ws))) left
    ∙ ap (λ (x : StepValue). x ∷ rest) (sym same) in
    ap (λ (xs : List StepValue). xs ++ rest) pushed ∙ append_assoc old (s ∷ []) rest
    ∙ ap (λ (xs : List StepValue). old ++ xs) (sym next) ∙ h

pub starts_done : (p : Slots) (moment most place : ℕ) (ws : List (ℕ × Job)) (steps all : List StepValue) → None ≡ slice_get ws place →
    steps ++ starts_of (most - place) moment (map (waiting_in p) (drop place ws)) ≡ all → steps ≡ all
starts_done p moment most place ws steps all none h =
    sym (append-nil steps) ∙ ap (λ (xs : List StepValue). steps ++ xs) (sym (starts_end p moment (most - place) place ws none)) ∙ h

front : {B : Type 0} (f : B → Option StepValue) (b : B) (bs : List B) → filter_map f (b ∷ []) ++ filter_map f bs ≡ filter_map f (b ∷ bs)
front f b bs = go (f b) refl where
  go : (o : Option StepValue) → f b ≡ o → filter_map f (b ∷ []) ++ filter_map f bs ≡ filter_map f (b ∷ bs)
  go None is = rw is refl
  go (Some s) is = rw is refl

-- along a list, the steps of one more
pub due_step : {A B : Type 0} (f : B → Option StepValue) (g : A → B) (xs : List A) (x : A) (old new all : List StepValue) → 1 ≤ length xs →
    x ≡ get_or xs 0 x → old ++ filter_map f (map g xs) ≡ all → new ≡ old ++ filter_map f (g x ∷ []) →
    new ++ filter_map f (map g (take (length xs - 1) (drop 1 xs))) ≡ all
due_step f g [] x old new all within is h pushed = absurd (omega arith)
due_step {A} f g (y ∷ xs) x old new all within is h pushed =
    let one : take (length (y ∷ xs) - 1) xs ≡ xs = take_all (length (y ∷ xs) - 1) xs (omega arith) in
    let first : x ≡ y = is in
    ap (λ (zs : List A). new ++ filter_map f (map g zs)) one
    ∙ ap (λ (ss : List StepValue). ss ++ filter_map f (map g xs)) (pushed ∙ ap (λ (z : A). old ++ filter_map f (g z ∷ [])) first)
    ∙ append_assoc old (filter_map f (g y ∷ [])) (filter_map f (map g xs))
    ∙ ap (λ (ss : List StepValue). old ++ ss) (front f (g y) (map g xs)) ∙ h

-- the step of a job that ends, where one runs under the number
pub ended_none : (p : Slots) (n : ℕ) (e : EndValue) (jobs : Jobs Job) → None ≡ running_job n jobs →
    [] ≡ ending_of n e (running_job n (jobs_in p jobs))
ended_none p n e jobs none = ap (ending_of n e) (ap (option_map (job_in p)) none ∙ sym (shown-running p n jobs))

pub ended_some : (p : Slots) (n : ℕ) (e : EndValue) (jobs : Jobs Job) (job : Job) (operation : List ℕ) → Some job ≡ running_job n jobs →
    operation ≡ completed_text n job.task.action e → ends n operation ∷ [] ≡ ending_of n e (running_job n (jobs_in p jobs))
ended_some p n e jobs job operation some is =
    ap (λ (op : List ℕ). ends n op ∷ []) is ∙ ap (ending_of n e) (ap (option_map (job_in p)) some ∙ sym (shown-running p n jobs))

-- ---- the steps of those that start behind those that end

pub fewer_run : (p : Slots) (jobs : Jobs Job) (steps : List StepValue) → EndJobs steps (jobs_in p jobs) → length steps ≤ length jobs.running
fewer_run p jobs steps e = fewer _ _ _ (e.count ∙ as-many-run p jobs) where
  fewer : (left gone all : ℕ) → left + gone ≡ all → gone ≤ all
  fewer left gone all is = omega arith

-- those of a Tick, of an outcome, and none
pub tick_fewer : (p : Slots) (moment : ℕ) (jobs : Jobs Job) (steps : List StepValue) → AreJobs jobs →
    steps ≡ timings_out moment (map (running_in p) jobs.running) → EndJobs steps (jobs_in p jobs)
tick_fewer p moment jobs steps h is = subst (λ (ss : List StepValue). EndJobs ss (jobs_in p jobs)) (sym is)
    (tick-ends moment (jobs_in p jobs) (shown-in-order p jobs h)).fewer

pub end_fewer : (p : Slots) (n : ℕ) (e : EndValue) (jobs : Jobs Job) (steps : List StepValue) → AreJobs jobs →
    steps ≡ ending_of n e (running_job n (jobs_in p jobs)) → EndJobs steps (jobs_in p jobs)
end_fewer p n e jobs steps h is = subst (λ (ss : List StepValue). EndJobs ss (jobs_in p jobs)) (sym is)
    (outcome-ends n e (jobs_in p jobs) (shown-in-order p jobs h)).fewer

-- ---- what is shown of jobs after a change

abbrev queue_of : ℕ → List (ℕ × JobValue) → List (ℕ × Running JobValue) → List (ℕ × List ℕ) → Jobs JobValue
queue_of next waiting running ended = record { next = next; waiting = waiting; running = running; ended = ended }

shown-removed : (p : Slots) (n : ℕ) (rs : List (ℕ × Running Job)) →
    map (running_in p) (remove_entry (same_number n) rs) ≡ remove_entry (same_number n) (map (running_in p) rs)
shown-removed p n [] = refl
shown-removed p n (r ∷ rs) = go (same_number n r.0) refl (shown-removed p n rs) where
  go : (b : Bool) → same_number n r.0 ≡ b → map (running_in p) (remove_entry (same_number n) rs)
      ≡ remove_entry (same_number n) (map (running_in p) rs) →
      map (running_in p) (remove_entry (same_number n) (r ∷ rs)) ≡ remove_entry (same_number n) (map (running_in p) (r ∷ rs))
  go true here later = rw here refl
  go false here later = rw here (ap (λ (es : List (ℕ × Running JobValue)). running_in p r ∷ es) later)

pub shown-end : (p : Slots) (n : ℕ) (operation : List ℕ) (jobs : Jobs Job) →
    jobs_in p (jobs_after_end n operation jobs) ≡ jobs_after_end n operation (jobs_in p jobs)
shown-end p n operation jobs = ap (λ (rs : List (ℕ × Running JobValue)). queue_of jobs.next (map (waiting_in p) jobs.waiting) rs
    (jobs_after_end n operation jobs).ended) (shown-removed p n jobs.running)

pub runs_there : (p : Slots) (n : ℕ) (jobs : Jobs Job) → IsRunning n (jobs_in p jobs) → IsRunning n jobs
runs_there p n jobs h = go (running_job n jobs) refl where
  go : (o : Option Job) → running_job n jobs ≡ o → IsRunning n jobs
  go None none = absurd (let no : None ≡ Some h.0 = ap (option_map (job_in p)) (sym none) ∙ sym (shown-running p n jobs) ∙ h.1 in cc)
  go (Some job) is = (job, is)

-- ---- what jobs hold after a change

pub end_moves : (p q : Slots) (n : ℕ) (operation : List ℕ) (job : Job) (jobs : Jobs Job) → running_job n jobs ≡ Some job →
    Moves p q (job_holders job) no_holders → Moves p q (jobs_holders jobs) (jobs_holders (jobs_after_end n operation jobs))
end_moves p q n operation job jobs is m =
    let after : Holders = jobs_holders (jobs_after_end n operation jobs) in
    moves_more p q (job_holders job) no_holders after (jobs_holders jobs) after
    (λ k. let sum = sum-end (λ (j : Job). job_holders j k) n operation job jobs is in omega (arith, sum)) (λ k. omega arith) m

pub end_held : (p : Slots) (n : ℕ) (operation : List ℕ) (job : Job) (jobs : Jobs Job) → running_job n jobs ≡ Some job →
    ((k : ℕ) → jobs_holders jobs k ≤ count_at p k) → (k : ℕ) →
    job_holders job k + jobs_holders (jobs_after_end n operation jobs) k ≤ count_at p k
end_held p n operation job jobs is held k = let sum = sum-end (λ (j : Job). job_holders j k) n operation job jobs is in let all = held k in
    omega (arith, sum, all)

pub ended_shown : (p q : Slots) (n : ℕ) (operation : List ℕ) (job : Job) (jobs : Jobs Job) → running_job n jobs ≡ Some job →
    ((k : ℕ) → jobs_holders jobs k ≤ count_at p k) → Moves p q (job_holders job) no_holders →
    jobs_in q (jobs_after_end n operation jobs) ≡ jobs_after_end n operation (jobs_in p jobs)
ended_shown p q n operation job jobs is held m =
    jobs_same p q (jobs_after_end n operation jobs) (job_holders job) no_holders (end_held p n operation job jobs is held) m
    ∙ shown-end p n operation jobs

pub job_held : (p : Slots) (n : ℕ) (operation : List ℕ) (job : Job) (jobs : Jobs Job) → running_job n jobs ≡ Some job →
    ((k : ℕ) → jobs_holders jobs k ≤ count_at p k) → (k : ℕ) → job_holders job k ≤ count_at p k
job_held p n operation job jobs is held k = let all = end_held p n operation job jobs is held k in omega (arith, all)

pub start_moves : (p : Slots) (deadline : ℕ) (jobs : Jobs Job) →
    Moves p p (jobs_holders jobs) (jobs_holders (jobs_after_start deadline jobs))
start_moves p deadline jobs = record {
  counts = λ k. let sum = sum-start (λ (j : Job). job_holders j k) deadline jobs in omega (arith, sum);
  texts = λ k less. refl;
}

-- ---- a job that is forgotten

pub shown-forget : (p : Slots) (n : ℕ) (jobs : Jobs Job) → jobs_in p (jobs_without n jobs) ≡ jobs_without n (jobs_in p jobs)
shown-forget p n jobs = ap (λ (rs : List (ℕ × Running JobValue)). queue_of jobs.next (map (waiting_in p) jobs.waiting) rs jobs.ended)
    (shown-removed p n jobs.running)

pub forgotten_shown : (p q : Slots) (n : ℕ) (job : Job) (jobs : Jobs Job) → running_job n jobs ≡ Some job →
    ((k : ℕ) → jobs_holders jobs k ≤ count_at p k) → Moves p q (job_holders job) no_holders →
    jobs_in q (jobs_without n jobs) ≡ jobs_without n (jobs_in p jobs)
forgotten_shown p q n job jobs is held m =
    jobs_same p q (jobs_without n jobs) (job_holders job) no_holders (end_held p n [] job jobs is held) m ∙ shown-forget p n jobs

none-removed : (n : ℕ) (rs : List (ℕ × Running Job)) → option_map (λ r. r.job) (lookup (same_number n) rs) ≡ None →
    remove_entry (same_number n) rs ≡ rs
none-removed n [] none = refl
none-removed n (r ∷ rs) none = go (same_number n r.0) refl none (λ later. none-removed n rs later) where
  go : (b : Bool) → same_number n r.0 ≡ b → option_map (λ r. r.job) (lookup (same_number n) (r ∷ rs)) ≡ None →
      (option_map (λ r. r.job) (lookup (same_number n) rs) ≡ None → remove_entry (same_number n) rs ≡ rs) →
      remove_entry (same_number n) (r ∷ rs) ≡ r ∷ rs
  go true here none later = absurd (let no : Some r.1.job ≡ None = (rw here at none) in cc)
  go false here none later = rw here (ap (λ (es : List (ℕ × Running Job)). r ∷ es) (later (rw here at none)))

-- where none runs under the number, nothing is forgotten
pub none_forgotten : (n : ℕ) (jobs : Jobs Job) → running_job n jobs ≡ None → jobs_without n jobs ≡ jobs
none_forgotten n jobs none = ap (λ (rs : List (ℕ × Running Job)). let js : Jobs Job = record jobs { running = rs } in js)
    (none-removed n jobs.running none)
