-- Which jobs start at the end of an event, who is told of them, and who watches on.
use Rattle.std.proofs.Common.{◌≡◌, ℕ, ◌-◌, ◌≤◌, zero, suc, Bool, true, false, cond, List, [], ◌∷◌, ◌++◌, length, map, Option, Some, None, refl, sym, ap, subst, ◌∙◌, inl, inr, arith}
use Rattle.std.specs.Prelude.{◌==◌, not, is_some, filter}
use Rattle.std.specs.List.{AllByRecursion}
use Rattle.std.specs.Map.{lookup}
use Rattle.std.proofs.lemmas.Bool.{eqb-true, eqb-false}
use Rattle.cas_service.specs.Changes as Texts
use Rattle.instance_view.specs.Visible.{Blob}
use Rattle.job_queue.specs.Jobs.{Jobs, same_number, running_job}
use Rattle.job_queue.specs.Changes.{jobs_after}
use Rattle.job_queue.proofs.Orders.{all-weaker}
use Rattle.execution.specs.Job.{JobValue}
use Rattle.execution.specs.Orders.{ToldValue, told}
use Rattle.execution.specs.Steps.{StepValue, times_out, ends, starts, change_of, jobs_after_steps, start_of, starts_of, timings_out, ending_of, then_starts}
use Rattle.execution.proofs.Turns.{turn-fills}
use Rattle.run_calls.specs.Outcomes.{OutcomeValue}
use Rattle.outcomes.specs.Ending.{admissions, results_with}
use Rattle.instance_core.specs.declared.event.CallId.{CallId}
use Rattle.instance_core.specs.Calls.{Calls, CallValue, ProgressValue, waits, has, writes, watches, cancel, tick, start_jobs, end_late_jobs, end_job}
use Rattle.instance_core.specs.Replies.{ReplyValue}
use Rattle.instance_core.specs.State.{InstanceState}
use Rattle.instance_core.specs.Changes.{Text, Keeps, Settles, state_after_change, state_after_changes}
use Rattle.instance_core.specs.Answer.{answer, state_after, ending_at, ending_changes, ending_steps}
use Rattle.instance_core.specs.Apart.{calls_apart, replies_on}
use Rattle.instance_core.specs.Watching.{is_watching, is_watcher, watchers, told_reply, replies_to_watchers, calls_told, calls_after_steps, IsGiven, waits_for, WatchAtRest, WatchDuring}
use Rattle.instance_core.proofs.WatchKept.{HaveProgress, all_filtered, without_progress}

-- ---- who watches on

told_on : (P : ProgressValue → Type 0) (t : ToldValue) (calls : Calls) → HaveProgress P calls → HaveProgress P (calls_told t calls)
told_on P t calls h = go t.is_last where
  go : (b : Bool) → HaveProgress P (cond b (filter (λ c. not (is_watcher t.number c)) calls) calls)
  go true = all_filtered (λ (c : CallId × CallValue). P c.1.progress) (λ c. not (is_watcher t.number c)) calls h
  go false = h

steps_on : (P : ProgressValue → Type 0) (steps : List StepValue) (calls : Calls) → HaveProgress P calls →
    HaveProgress P (calls_after_steps steps calls)
steps_on P [] calls h = h
steps_on P (step ∷ steps) calls h = steps_on P steps (calls_told (told step) calls) (told_on P (told step) calls h)

step_next : (step : StepValue) (jobs : Jobs JobValue) → (jobs_after (change_of step) jobs).next ≡ jobs.next
step_next (times_out n operation) jobs = refl
step_next (ends n operation) jobs = refl
step_next (starts n deadline operation) jobs = refl

steps_next : (steps : List StepValue) (jobs : Jobs JobValue) → (jobs_after_steps steps jobs).next ≡ jobs.next
steps_next [] jobs = refl
steps_next (step ∷ steps) jobs = steps_next steps (jobs_after (change_of step) jobs) ∙ step_next step jobs

-- ---- jobs start as far as there are slots

-- nobody watches a job that waits, where none waits
none_waits : (ws : List (ℕ × JobValue)) (p : ProgressValue) → length ws ≡ 0 → waits_for ws p ≡ false
none_waits [] waits h = refl
none_waits [] (has request) h = refl
none_waits [] (writes write) h = refl
none_waits [] (watches n) h = refl
none_waits (w ∷ ws) p h = absurd (omega (arith, h))

all_of : (P : ProgressValue → Type 0) → ((p : ProgressValue) → P p) → (calls : Calls) → HaveProgress P calls
all_of P f [] = tt
all_of P f (c ∷ cs) = (f c.1.progress, all_of P f cs)

-- jobs end, and others start
pub turn_rests : (ending : List StepValue) (s : InstanceState) → HaveProgress (IsGiven s.jobs.next) s.calls →
    WatchAtRest (state_after_change (Settles (then_starts s.slots s.moment ending s.jobs)) s)
turn_rests ending s given =
    let steps = then_starts s.slots s.moment ending s.jobs in
    let after = jobs_after_steps steps s.jobs in
    let calls = calls_after_steps steps s.calls in
    record {
      given = subst (λ (n : ℕ). HaveProgress (IsGiven n) calls) (sym (steps_next steps s.jobs))
          (steps_on (IsGiven s.jobs.next) steps s.calls given);
      busy = elim (turn-fills s.slots s.moment ending s.jobs) [
        | inl full ↦ inl full
        | inr none ↦ inr (all_of (λ p. waits_for after.waiting p ≡ false) (λ p. none_waits after.waiting p none) calls)
      ];
    }

pub starts_rest : (c : ℕ) (s : InstanceState) → WatchDuring c s → WatchAtRest (state_after s start_jobs)
starts_rest c s h = turn_rests [] s h.given

pub late_rest : (s : InstanceState) → WatchAtRest s → WatchAtRest (state_after s end_late_jobs)
late_rest s h = turn_rests (timings_out s.moment s.jobs.running) s h.given

-- what a job leaves changes neither jobs nor calls
admitted_rest : (ts : List Texts.TextChange) (results : List Blob) (steps : List StepValue) (s : InstanceState) →
    WatchAtRest (state_after_change (Settles steps) s)
    → WatchAtRest (state_after_changes ((map Text ts ++ Keeps results ∷ []) ++ Settles steps ∷ []) s)
admitted_rest [] results steps s h = record { given = h.given; busy = h.busy }
admitted_rest (t ∷ ts) results steps s h = admitted_rest ts results steps (state_after_change (Text t) s)
    (record { given = h.given; busy = h.busy })

ended_with : (s : InstanceState) (n : ℕ) (outcome : OutcomeValue) (o : Option JobValue) → WatchAtRest s →
    WatchAtRest (state_after_changes (ending_changes s outcome o ++ Settles (ending_steps s n outcome o) ∷ []) s)
ended_with s n outcome None h = record { given = h.given; busy = h.busy }
ended_with s n outcome (Some job) h =
    let end = ending_at s outcome job in
    admitted_rest (admissions end.blobs) (results_with s.limits job.action end.stored s.results) (ending_steps s n outcome (Some job)) s
    (turn_rests (ending_of n end.end_is (running_job n s.jobs)) s h.given)

pub ended_rest : (s : InstanceState) (n : ℕ) (outcome : OutcomeValue) → WatchAtRest s → WatchAtRest (state_after s (end_job n outcome))
ended_rest s n outcome h = ended_with s n outcome (running_job n s.jobs) h

-- ---- time passes, and a call is given up

pub tick_rest : (s : InstanceState) → WatchAtRest s → WatchAtRest (state_after s tick)
tick_rest s h = record { given = h.given; busy = h.busy }

pub cancel_rest : (id : CallId) (s : InstanceState) → WatchAtRest s → WatchAtRest (state_after s (cancel id))
cancel_rest id s h = record {
  given = without_progress (IsGiven s.jobs.next) id s.calls h.given;
  busy = elim h.busy [
    | inl full ↦ inl full
    | inr none ↦ inr (without_progress (λ p. waits_for s.jobs.waiting p ≡ false) id s.calls none)
  ];
}

-- ---- who is told

module _ {J : Type 0} where
  found_behind : (n : ℕ) (e : ℕ × J) (es : List (ℕ × J)) → is_some (lookup (same_number n) es) ≡ true →
      is_some (lookup (same_number n) (e ∷ es)) ≡ true
  found_behind n e es h = go (same_number n e.0) where
    go : (b : Bool) → is_some (cond b (Some e.1) (lookup (same_number n) es)) ≡ true
    go true = refl
    go false = h

  found_first : (e : ℕ × J) (es : List (ℕ × J)) → is_some (lookup (same_number e.0) (e ∷ es)) ≡ true
  found_first e es = go (same_number e.0 e.0) refl where
    go : (b : Bool) → same_number e.0 e.0 ≡ b → is_some (lookup (same_number e.0) (e ∷ es)) ≡ true
    go true is = rw is refl
    go false is = absurd (eqb-false e.0 e.0 is refl)

  -- each is found under its number
  abbrev AreFound : List (ℕ × J) → List (ℕ × J) → Type 0
  AreFound all es = AllByRecursion (λ (e : ℕ × J). is_some (lookup (same_number e.0) all) ≡ true) es

  all_found : (es : List (ℕ × J)) → AreFound es es
  all_found [] = tt
  all_found (e ∷ es) = (
    found_first e es,
    all-weaker (λ (x : ℕ × J). is_some (lookup (same_number x.0) es) ≡ true)
        (λ (x : ℕ × J). is_some (lookup (same_number x.0) (e ∷ es)) ≡ true) (λ x. found_behind x.0 e es) es (all_found es),
  )

  -- who watches none that waits does not watch this one
  not_watched : (ws : List (ℕ × J)) (n : ℕ) (p : ProgressValue) → is_some (lookup (same_number n) ws) ≡ true → waits_for ws p ≡ false →
      is_watching n p ≡ false
  not_watched ws n waits there h = refl
  not_watched ws n (has request) there h = refl
  not_watched ws n (writes write) there h = refl
  not_watched ws n (watches m) there h = go (m == n) refl where
    go : (b : Bool) → (m == n) ≡ b → (m == n) ≡ false
    go true is = absurd (let same : m ≡ n = eqb-true m n is in let found : is_some (lookup (same_number m) ws) ≡ true =
        subst (λ (k : ℕ). is_some (lookup (same_number k) ws) ≡ true) (sym same) there in let no : true ≡ false = sym found ∙ h in cc)
    go false is = is

-- those who watch are on the connection
abbrev AreOn : ℕ → List CallId → Type 0
AreOn c ids = AllByRecursion (λ (id : CallId). (id.connection == c) ≡ true) ids

on_by : (c n : ℕ) (k : CallId × CallValue) (ks : Calls) (a b : Bool) → (k.0.connection == c) ≡ a → is_watcher n k ≡ b
    → HaveProgress (λ p. is_watching n p ≡ false) (cond (not a) (k ∷ calls_apart c ks) (calls_apart c ks)) →
    (HaveProgress (λ p. is_watching n p ≡ false) (calls_apart c ks) → AreOn c (watchers n ks))
    → AreOn c (map (λ (x : CallId × CallValue). x.0) (cond b (k ∷ filter (is_watcher n) ks) (filter (is_watcher n) ks)))
on_by c n k ks true true on is h later = (on, later h)
on_by c n k ks true false on is h later = later h
on_by c n k ks false true on is h later = absurd (let no : true ≡ false = sym is ∙ h.0 in cc)
on_by c n k ks false false on is h later = later h.1

watchers_on : (c n : ℕ) (calls : Calls) → HaveProgress (λ p. is_watching n p ≡ false) (calls_apart c calls) → AreOn c (watchers n calls)
watchers_on c n [] h = tt
watchers_on c n (k ∷ ks) h = on_by c n k ks (k.0.connection == c) (is_watcher n k) refl refl h (watchers_on c n ks)

replied_on : (c : ℕ) (t : ToldValue) (ids : List CallId) (rest : List ReplyValue) → AreOn c ids → replies_on c rest ≡ rest →
    replies_on c (map (told_reply t) ids ++ rest) ≡ map (told_reply t) ids ++ rest
replied_on c t [] rest on h = h
replied_on c t (id ∷ ids) rest on h = rw on.0 (ap (λ (rs : List ReplyValue). told_reply t id ∷ rs) (replied_on c t ids rest on.1 h))

started_on : (c most moment : ℕ) (calls : Calls) (all ws : List (ℕ × JobValue)) →
    HaveProgress (λ p. waits_for all p ≡ false) (calls_apart c calls) → AreFound all ws
    → replies_on c (replies_to_watchers calls (starts_of most moment ws)) ≡ replies_to_watchers calls (starts_of most moment ws)
started_on c zero moment calls all ws h found = refl
started_on c (suc most) moment calls all [] h found = refl
started_on c (suc most) moment calls all (w ∷ ws) h found =
    let apart = all-weaker (λ (k : CallId × CallValue). waits_for all k.1.progress ≡ false)
    (λ (k : CallId × CallValue). is_watching w.0 k.1.progress ≡ false) (λ k. not_watched all w.0 k.1.progress found.0)
    (calls_apart c calls) h in
    replied_on c (told (start_of moment w)) (watchers w.0 calls) (replies_to_watchers calls (starts_of most moment ws))
    (watchers_on c w.0 calls apart) (started_on c most moment calls all ws h found.1)

no_room : (a b : ℕ) → a ≤ b → a - b ≡ 0
no_room a b h = omega arith

pub told_there : (c : ℕ) (s : InstanceState) → WatchDuring c s → replies_on c (answer s start_jobs).replies ≡ (answer s start_jobs).replies
told_there c s h = elim h.busy [
  | inl full ↦
      subst (λ (most : ℕ). replies_on c (replies_to_watchers s.calls (starts_of most s.moment s.jobs.waiting))
      ≡ replies_to_watchers s.calls (starts_of most s.moment s.jobs.waiting))
      (sym (no_room s.slots (length s.jobs.running) full)) refl
  | inr none ↦ started_on c (s.slots - length s.jobs.running) s.moment s.calls s.jobs.waiting s.jobs.waiting none (all_found s.jobs.waiting)
]
