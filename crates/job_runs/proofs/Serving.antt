-- Whatever is served, while the clock never goes back: what happens at the runs is of jobs.
use Rattle.std.proofs.Common.{◌≡◌, ◌≢◌, ℕ, zero, suc, ◌<◌, ◌≤◌, Bool, true, false, List, [], ◌∷◌, ◌++◌, length, map, Option, Some, None, refl, sym, ap, subst, ◌∙◌, inl, inr, append-nil, append_assoc, arith}
use Rattle.std.specs.Prelude.{◌==◌, option_map, slice_get, slice_set}
use Rattle.std.specs.List.{filter_map, flat_map, range_with_len}
use Rattle.std.proofs.lemmas.Bool.{eqb-true, eqb-false}
use Rattle.std.proofs.lemmas.Option.{none-some, same_Some, slice_get-map}
use Rattle.execution.specs.Job.{TaskValue}
use Rattle.execution.specs.Orders.{OrderValue, start, kill, task_of}
use Rattle.instance_core.specs.Calls.{CallEventValue}
use Rattle.instance_core.specs.State.{InstanceState}
use Rattle.instance_core.specs.Visible.{Blob}
use Rattle.instance_core.specs.Changes.{InstanceChange, Text, Goes, Ends, Wrote, Keeps, Expires, Does, Pushes, Settles, state_after_change, state_after_changes}
use Rattle.instance_core.specs.Answer.{answer, state_after}
use Rattle.server_events.specs.Events.{EventValue, LoneEvent, WhatValue, opened, received, took, closed, tick, ended}
use Rattle.served_instance.specs.Lone.{LoneInstance, lone_at_moment}
use Rattle.served_instance.specs.Events.{bytes_events}
use Rattle.served_instance.specs.Short.{IsCutShort, IsCutEffect}
use Rattle.served_instance.proofs.Moments.{step_within}
use Rattle.server_events.specs.Configs.{ConfigValue, parents_of}
use Rattle.serve.specs.RunEvents.{RunEvent, ordered, lent, gave}
use Rattle.serve.specs.SocketEvents.{SocketEvent, clock, port, failed, PortEvent, accepted, read, written, shut, what_of}
use Rattle.serve.specs.Happenings.{Happening, MarkedHappening, at_sockets, at_runs, told, run_event, timed_event, with_times, moment_then, event_told}
use Rattle.serve.specs.Served.{MayStep, AtWork, with_orders, texts_beside, IsTaken, MayServe, begun, IsServed, WasServed}
use Rattle.job_runs.specs.Clock.{NeverFalls, NeverBack}
use Rattle.job_runs.specs.Ran.{AreOfJobs, AreOfJobsBehind}
use Rattle.job_runs.proofs.Fitting.{Fits, IsOver, fits_same, fits_over, fits_at_first}
use Rattle.job_runs.proofs.Planned.{plan_of, plan_own, plan_beside, plan_apart, is_over, Leads}
use Rattle.job_runs.proofs.Stepped.{outcome_told, step_leads}

-- ---- moments

changed_moment : (changes : List InstanceChange) (s : InstanceState) →
    (state_after_changes changes s).moment ≡ s.moment
changed_moment [] s = refl
changed_moment (Text c ∷ changes) s = changed_moment changes (state_after_change (Text c) s)
changed_moment (Goes id call ∷ changes) s =
    changed_moment changes (state_after_change (Goes id call) s)
changed_moment (Ends id ∷ changes) s = changed_moment changes (state_after_change (Ends id) s)
changed_moment (Wrote w ∷ changes) s = changed_moment changes (state_after_change (Wrote w) s)
changed_moment (Keeps results ∷ changes) s =
    changed_moment changes (state_after_change (Keeps results) s)
changed_moment (Expires ∷ changes) s = changed_moment changes (state_after_change Expires s)
changed_moment (Does operation ∷ changes) s =
    changed_moment changes (state_after_change (Does operation) s)
changed_moment (Pushes job ∷ changes) s = changed_moment changes (state_after_change (Pushes job) s)
changed_moment (Settles steps ∷ changes) s =
    changed_moment changes (state_after_change (Settles steps) s)

made_moment : (made : List InstanceChange) (s t : InstanceState) → t ≡ state_after_changes made s →
    t.moment ≡ s.moment
made_moment made s t is = ap (λ (x : InstanceState). x.moment) is ∙ changed_moment made s

cut_moment : (events : List CallEventValue) (s t : InstanceState) → IsCutShort events s t →
    t.moment ≡ s.moment
cut_moment [] s t same = ap (λ (x : InstanceState). x.moment) same
cut_moment (event ∷ events) s t (inl part) = made_moment part.made s t part.so_far
cut_moment (event ∷ events) s t (inr rest) =
    cut_moment events (state_after s event) t rest ∙ changed_moment (answer s event).changes s

short_moment : (what : WhatValue) (l m : LoneInstance) → IsCutEffect what l m →
    m.state.moment ≡ l.state.moment
short_moment (opened c) l m is = ap (λ (k : LoneInstance). k.state.moment) is
short_moment (received c bytes) l m b =
    ap (λ (k : LoneInstance). k.state.moment) b.gone
    ∙ cut_moment (bytes_events c bytes l) l.state b.left b.cut
short_moment (took c n) l m is = absurd is
short_moment (closed c) l m is = absurd is
short_moment tick l m is = ap (λ (k : LoneInstance). k.state.moment) is
short_moment (ended n outcome) l m b =
    ap (λ (k : LoneInstance). k.state.moment) b.gone
    ∙ made_moment b.made.made l.state b.left b.made.so_far

-- an instance is not ahead of the clock
not_ahead : (parent : List Blob) (e : LoneEvent) (marked : Bool) (l k : LoneInstance)
    (orders : List OrderValue) → MayStep parent e marked l k orders → l.state.moment ≤ e.moment →
    k.state.moment ≤ e.moment
not_ahead parent e true l k orders may times =
    subst (λ (n : ℕ). n ≤ e.moment) (sym (short_moment e.what (lone_at_moment e.moment parent l) k may.1)) (omega arith)
not_ahead parent e false l k orders may times =
    subst (λ (x : LoneInstance). x.state.moment ≤ e.moment) (sym may.0) (step_within parent e l e.moment (omega arith) times)

-- ---- all instances

-- what is to run at an instance fits its jobs, and it is not ahead of the clock
pub record IsPlanned (i : ℕ) (before : List RunEvent) (m : ℕ) (l : LoneInstance) : Type 0 where
  pub fits : Fits (plan_of i before) l.state.jobs
  pub times : l.state.moment ≤ m

-- what is ordered and not yet carried out is of jobs, and behind it all fit
pub record AllPlanned (before : List RunEvent) (m : ℕ) (w : AtWork) : Type 0 where
  pub right : AreOfJobsBehind before w.orders
  pub each : (i : ℕ) (l : LoneInstance) → slice_get w.instances i ≡ Some l →
      IsPlanned i (before ++ w.orders) m l

set_other : {A : Type 0} (xs : List A) (i j : ℕ) (x : A) → j ≢ i →
    slice_get (slice_set xs i x) j ≡ slice_get xs j
set_other [] i j x ne = refl
set_other (y ∷ xs) zero zero x ne = absurd (ne refl)
set_other (y ∷ xs) zero (suc j) x ne = refl
set_other (y ∷ xs) (suc i) zero x ne = refl
set_other (y ∷ xs) (suc i) (suc j) x ne = set_other xs i j x (λ e. ne (ap suc e))

set_here : {A : Type 0} (xs : List A) (i : ℕ) (x y : A) → slice_get xs i ≡ Some y →
    slice_get (slice_set xs i x) i ≡ Some x
set_here [] i x y is = absurd (none-some y is)
set_here (z ∷ xs) zero x y is = refl
set_here (z ∷ xs) (suc i) x y is = set_here xs i x y is

is_there : {A : Type 0} (xs : List A) (i : ℕ) → i < length xs → (x : A) × (slice_get xs i ≡ Some x)
is_there [] i less = absurd (omega (arith, less))
is_there (x ∷ xs) zero less = (x, refl)
is_there (x ∷ xs) (suc i) less = is_there xs i (omega (arith, less))

-- ---- an event

-- to what is to run at one instance it does not matter what another orders, and what is told there
plan_ordered : (i j n : ℕ) (orders : List OrderValue) (before : List RunEvent) → i ≢ j →
    plan_of i (before ++ map (ordered j) orders) n ≡ plan_of i before n
plan_ordered i j n [] before other = ap (λ (b : List RunEvent). plan_of i b n) (append-nil before)
plan_ordered i j n (o ∷ orders) before other =
    ap (λ (b : List RunEvent). plan_of i b n) (sym (append_assoc before (ordered j o ∷ []) (map (ordered j) orders)))
    ∙ plan_ordered i j n orders (before ++ ordered j o ∷ []) other
    ∙ one o where
      one : (o : OrderValue) → plan_of i (before ++ ordered j o ∷ []) n ≡ plan_of i before n
      one (start k t) = plan_apart i j k n before (ordered j (start k t)) refl other
      one (kill k) = plan_apart i j k n before (ordered j (kill k)) refl other

plan_told : (i j n : ℕ) (what : WhatValue) (before : List RunEvent) → i ≢ j →
    plan_of i (before ++ outcome_told j what) n ≡ plan_of i before n
plan_told i j n (opened c) before other =
    ap (λ (b : List RunEvent). plan_of i b n) (append-nil before)
plan_told i j n (received c bytes) before other =
    ap (λ (b : List RunEvent). plan_of i b n) (append-nil before)
plan_told i j n (took c k) before other =
    ap (λ (b : List RunEvent). plan_of i b n) (append-nil before)
plan_told i j n (closed c) before other =
    ap (λ (b : List RunEvent). plan_of i b n) (append-nil before)
plan_told i j n tick before other = ap (λ (b : List RunEvent). plan_of i b n) (append-nil before)
plan_told i j n (ended k outcome) before other =
    plan_apart i j k n before (gave j k outcome) refl other

-- what was told, and what this event tells
abbrev then_told : List RunEvent → EventValue → List RunEvent
then_told before e = before ++ outcome_told e.instance e.lone.what

taken_planned : (parents : List (Option ℕ)) (e : EventValue) (marked : Bool)
    (ls : List LoneInstance) (k : AtWork) (before : List RunEvent) → IsTaken parents e marked ls k →
    AllPlanned before e.lone.moment (with_orders ls []) → AllPlanned (then_told before e) e.lone.moment k
taken_planned parents e marked ls k before is planned =
    subst (AllPlanned (then_told before e) e.lone.moment) (sym is.so)
    (record { right = leads.right; each = λ i l at. go i l at (i == e.instance) refl }) where
      own : IsPlanned e.instance (before ++ []) e.lone.moment is.was
      own = planned.each e.instance is.was is.there

      leads : Leads e.instance (then_told before e)
          (map (ordered e.instance) is.orders) is.now.state.jobs
      leads = step_leads (texts_beside e.instance parents ls) before e marked is.was is.now is.orders own.times is.step
          (subst (λ (b : List RunEvent). Fits (plan_of e.instance b) is.was.state.jobs) (append-nil before) own.fits)

      go : (i : ℕ) (l : LoneInstance) → slice_get (slice_set ls e.instance is.now) i ≡ Some l →
          (b : Bool) → (i == e.instance) ≡ b →
          IsPlanned i (then_told before e ++ map (ordered e.instance) is.orders) e.lone.moment l
      go i l at true here =
          let same : e.instance ≡ i = sym (eqb-true i e.instance here) in
          let found : slice_get (slice_set ls e.instance is.now) e.instance ≡ Some l =
          subst (λ (n : ℕ). slice_get (slice_set ls e.instance is.now) n ≡ Some l) (sym same) at in
          let now : is.now ≡ l = same_Some is.now l (sym (set_here ls e.instance is.now is.was is.there) ∙ found) in
          let fit : IsPlanned e.instance (then_told before e ++ map (ordered e.instance) is.orders) e.lone.moment is.now =
          record {
            fits = leads.fits;
            times = not_ahead
                (texts_beside e.instance parents ls) e.lone marked is.was is.now is.orders is.step own.times;
          } in
          subst (λ (n : ℕ). IsPlanned n (then_told before e ++ map (ordered e.instance) is.orders) e.lone.moment l) same
          (subst (λ (x : LoneInstance). IsPlanned e.instance (then_told before e ++ map (ordered e.instance) is.orders) e.lone.moment x) now
          fit)
      go i l at false apart =
          let other : i ≢ e.instance = eqb-false i e.instance apart in
          let was = planned.each i l (sym (set_other ls e.instance i is.now other) ∙ at) in
          record {
            fits = fits_same (plan_of i (before ++ [])) (plan_of i (then_told before e ++ map (ordered e.instance) is.orders)) l.state.jobs
                (λ n. plan_ordered i e.instance n is.orders (then_told before e) other ∙ plan_told i e.instance n e.lone.what before other
                ∙ ap (λ (b : List RunEvent). plan_of i b n) (sym (append-nil before))) was.fits;
            times = was.times;
          }

-- ---- what happens one after another

-- all orders are carried out
rested : (before : List RunEvent) (m : ℕ) (w : AtWork) → w.orders ≡ [] → AllPlanned before m w →
    AllPlanned before m (with_orders w.instances [])
rested before m w none h =
    subst (λ (os : List RunEvent). AllPlanned before m (with_orders w.instances os)) none h

-- the clock shows more
later_planned : (before : List RunEvent) (m n : ℕ) (w : AtWork) → m ≤ n → AllPlanned before m w →
    AllPlanned before n w
later_planned before m n w more h = record {
  right = h.right;
  each = λ i l at. (let q = h.each i l at in record { fits = q.fits; times = (let le = q.times in omega (arith, le, more)) });
}

-- the next order is carried out
carried_planned : (before : List RunEvent) (m : ℕ) (e : RunEvent) (k : AtWork) →
    AllPlanned before m (with_orders k.instances (e ∷ k.orders)) → AllPlanned (before ++ e ∷ []) m k
carried_planned before m e k h = record {
  right = h.right.1;
  each = λ i l at. (let q = h.each i l at in record {
    fits = subst (λ (es : List RunEvent). Fits (plan_of i es) l.state.jobs) (sym (append_assoc before (e ∷ []) k.orders)) q.fits;
    times = q.times;
  });
}

-- a task is lent, or none
plan_lent : (j n : ℕ) (t : TaskValue) (before : List RunEvent) (i m : ℕ) →
    plan_of i (before ++ lent j n (Some t) ∷ []) m ≡ plan_of i before m
plan_lent j n t before i m = go (i == j) (m == n) refl refl where
  go : (a b : Bool) → (i == j) ≡ a → (m == n) ≡ b →
      plan_of i (before ++ lent j n (Some t) ∷ []) m ≡ plan_of i before m
  go true true here number =
      let one : i ≡ j = eqb-true i j here in
      let other : m ≡ n = eqb-true m n number in
      subst (λ (x : ℕ). plan_of x (before ++ lent j n (Some t) ∷ []) m ≡ plan_of x before m) (sym one)
      (subst (λ (x : ℕ). plan_of j (before ++ lent j n (Some t) ∷ []) x ≡ plan_of j before x) (sym other)
      (plan_own j n before (lent j n (Some t)) refl))
  go true false here number =
      let one : i ≡ j = eqb-true i j here in
      subst (λ (x : ℕ). plan_of x (before ++ lent j n (Some t) ∷ []) m ≡ plan_of x before m) (sym one)
      (plan_beside j n m before (lent j n (Some t)) refl (eqb-false m n number))
  go false b here number = plan_apart i j n m before (lent j n (Some t)) refl (eqb-false i j here)

-- whether it fits behind a task that is lent, or none
lent_fits : (before : List RunEvent) (j n : ℕ) (task : Option TaskValue) (i : ℕ)
    (l : LoneInstance) → (i ≡ j → task ≡ task_of n l.state.jobs) →
    Fits (plan_of i before) l.state.jobs →
    Fits (plan_of i (before ++ lent j n task ∷ [])) l.state.jobs
lent_fits before j n (Some t) i l faithful h =
    fits_same (plan_of i before) (plan_of i (before ++ lent j n (Some t) ∷ [])) l.state.jobs (plan_lent j n t before i) h
lent_fits before j n None i l faithful h = go (i == j) refl where
  go : (b : Bool) → (i == j) ≡ b → Fits (plan_of i (before ++ lent j n None ∷ [])) l.state.jobs
  go true here =
      let same : i ≡ j = eqb-true i j here in
      let over = subst (λ (x : ℕ). IsOver n (plan_of x before) (plan_of x (before ++ lent j n None ∷ []))) (sym same)
      (is_over j n before (lent j n None) refl (λ s. refl)) in
      fits_over n (plan_of i before) (plan_of i (before ++ lent j n None ∷ [])) l.state.jobs over (sym (faithful same)) h
  go false apart = fits_same (plan_of i before) (plan_of i (before ++ lent j n None ∷ [])) l.state.jobs
      (λ m. plan_apart i j n m before (lent j n None) refl (eqb-false i j apart)) h

lent_planned : (before : List RunEvent) (m : ℕ) (j n : ℕ) (task : Option TaskValue)
    (ls : List LoneInstance) →
    ((i : ℕ) (l : LoneInstance) → slice_get ls i ≡ Some l → i ≡ j → task ≡ task_of n l.state.jobs) →
    AllPlanned before m (with_orders ls []) →
    AllPlanned (before ++ lent j n task ∷ []) m (with_orders ls [])
lent_planned before m j n task ls faithful h = record {
  right = tt;
  each = λ i l at. (let q = h.each i l at in record {
    fits = subst (λ (es : List RunEvent). Fits (plan_of i es) l.state.jobs) (sym (append-nil (before ++ lent j n task ∷ [])))
        (lent_fits before j n task i l (faithful i l at)
        (subst (λ (es : List RunEvent). Fits (plan_of i es) l.state.jobs) (append-nil before) q.fits));
    times = q.times;
  });
}

-- the task that is lent is to run
lent_right : (before : List RunEvent) (m j n : ℕ) (task : Option TaskValue) (ls : List LoneInstance)
    (l : LoneInstance) → slice_get ls j ≡ Some l → task ≡ task_of n l.state.jobs →
    AllPlanned before m (with_orders ls []) → AreOfJobsBehind before (lent j n task ∷ [])
lent_right before m j n None ls l at faithful h = (tt, tt)
lent_right before m j n (Some t) ls l at faithful h =
    let q = h.each j l at in
    (ap (λ (es : List RunEvent). plan_of j es n) (sym (append-nil before)) ∙ q.fits.running n t (sym faithful), tt)

nothing_told : (j : ℕ) (p : PortEvent) → outcome_told j (what_of p) ≡ []
nothing_told j (accepted c) = refl
nothing_told j (read c bytes) = refl
nothing_told j (written c bytes) = refl
nothing_told j (shut c) = refl

served_of_jobs : (parents : List (Option ℕ)) (sockets : List SocketEvent) (m : ℕ) (w v : AtWork)
    (h : List MarkedHappening) (before : List RunEvent) → MayServe parents sockets m w h v →
    NeverBack m h → AllPlanned before m w → AreOfJobsBehind before (filter_map run_event h)
served_of_jobs parents sockets m w v [] before may rises planned = tt
served_of_jobs parents sockets m w v ((at_runs (ordered j o), b) ∷ h) before may rises planned =
    let next : AllPlanned before m (with_orders may.0.instances (ordered j o ∷ may.0.orders)) =
    subst (AllPlanned before m) may.1.1 planned in (
      next.right.0,
      served_of_jobs parents sockets m may.0 v h (before ++ ordered j o ∷ []) may.3 rises.1
          (carried_planned before m (ordered j o) may.0 next),
    )
served_of_jobs parents sockets m w v ((at_runs (lent j n task), b) ∷ h) before may rises planned =
    let comes = may.1.1 in
    let rest : AllPlanned before m (with_orders w.instances []) = rested before m w comes.0 planned in
    let there = is_there w.instances j may.1.0 in
    let faithful : (i : ℕ) (l : LoneInstance) → slice_get w.instances i ≡ Some l → i ≡ j → task ≡ task_of n l.state.jobs =
    λ i l at same. comes.1 i l at (sym same) in
    let next : AllPlanned (before ++ lent j n task ∷ []) m may.0 =
    subst (AllPlanned (before ++ lent j n task ∷ []) m) (sym comes.2.1) (lent_planned before m j n task w.instances faithful rest) in (
      (lent_right before m j n task w.instances there.0 there.1 (faithful j there.0 there.1 refl) rest).0,
      served_of_jobs parents sockets m
          may.0 v h (before ++ lent j n task ∷ []) may.3 rises.1 next,
    )
served_of_jobs parents sockets m w v ((at_runs (gave j n outcome), b) ∷ h) before may rises planned =
    let comes = may.1 in (
      tt,
      served_of_jobs parents sockets m may.0 v h (before ++ gave j n outcome ∷ []) may.3 rises.1
          (taken_planned parents (event_told m j (ended n outcome)) b w.instances may.0 before comes.2 (rested before m w comes.0 planned)),
    )
served_of_jobs parents sockets m w v ((told j, b) ∷ h) before may rises planned =
    let comes = may.1 in
    let next : AllPlanned (before ++ []) m may.0 =
    taken_planned parents (event_told m j tick) b w.instances may.0 before comes.2 (rested before m w comes.0 planned) in
    served_of_jobs parents sockets m may.0 v h before may.3 rises.1
    (subst (λ (es : List RunEvent). AllPlanned es m may.0) (append-nil before) next)
served_of_jobs parents sockets m w v ((at_sockets (clock t), b) ∷ h) before may rises planned =
    let comes = may.1 in
    let rest : AllPlanned before m (with_orders w.instances []) = rested before m w comes.0 planned in
    served_of_jobs parents (sockets ++ clock t ∷ []) t may.0 v h before may.3 rises.1
    (later_planned before m t may.0 rises.0 (subst (AllPlanned before m) (sym comes.2.1) rest))
served_of_jobs parents sockets m w v ((at_sockets (port j p), b) ∷ h) before may rises planned =
    let comes = may.1 in
    let next : AllPlanned (before ++ outcome_told j (what_of p)) m may.0 =
    taken_planned parents (event_told m j (what_of p)) b w.instances may.0 before comes.2 (rested before m w comes.0 planned) in
    served_of_jobs parents (sockets ++ port j p ∷ []) m may.0 v h before may.3 rises.1
    (subst (λ (es : List RunEvent). AllPlanned es m may.0)
    (ap (λ (es : List RunEvent). before ++ es) (nothing_told j p) ∙ append-nil before) next)
served_of_jobs parents sockets m w v ((at_sockets (failed j c), b) ∷ h) before may rises planned =
    let comes = may.1.1 in
    let rest : AllPlanned before m (with_orders w.instances []) = rested before m w comes.0 planned in
    served_of_jobs parents (sockets ++ failed j c ∷ []) m may.0 v h before may.3 rises.1 (subst (AllPlanned before m) (sym comes.2.1) rest)

-- ---- from nothing on

at_first_planned : (configs : List ConfigValue) →
    AllPlanned [] 0 (with_orders (map begun configs) [])
at_first_planned configs =
    record { right = tt; each = λ i l at. go i l (slice_get configs i) (sym (slice_get-map begun configs i) ∙ at) } where
      go : (i : ℕ) (l : LoneInstance) (o : Option ConfigValue) → option_map begun o ≡ Some l →
          IsPlanned i [] 0 l
      go i l None is = absurd (none-some l is)
      go i l (Some config) is = subst (IsPlanned i [] 0) (same_Some (begun config) l is)
          (record { fits = fits_at_first (plan_of i []) (λ n. refl); times = omega arith })

pub serves_of_jobs : (configs : List ConfigValue) (h : List MarkedHappening) → IsServed configs h →
    NeverBack 0 h → AreOfJobs (filter_map run_event h)
serves_of_jobs configs h served rises =
    served_of_jobs (parents_of configs) [] 0 (with_orders (map begun configs) []) (with_orders served.1 []) h [] served.2 rises
    (at_first_planned configs)

-- ---- the clock

abbrev NeverEarlier : ℕ → List Happening → Type 0
NeverEarlier m [] = Unit {0}
NeverEarlier m (x ∷ h) = (m ≤ moment_then m x) × NeverEarlier (moment_then m x) h

back_timed : (m : ℕ) (h : List MarkedHappening) → NeverEarlier m (filter_map timed_event h) →
    NeverBack m h
back_timed m [] rises = tt
back_timed m ((at_runs r, b) ∷ h) rises = (omega arith, back_timed m h rises)
back_timed m ((at_sockets s, b) ∷ h) rises =
    (rises.0, back_timed (moment_then m (at_sockets s)) h rises.1)
back_timed m ((told j, b) ∷ h) rises = (rises.0, back_timed m h rises.1)

told_timed : (m : ℕ) (js : List ℕ) (h : List Happening) → NeverEarlier m h →
    NeverEarlier m (map told js ++ h)
told_timed m [] h rises = rises
told_timed m (j ∷ js) h rises = (omega arith, told_timed m js h rises)

timed_rises : (count m : ℕ) (s : List SocketEvent) → NeverFalls m s →
    NeverEarlier m (flat_map (with_times count) s)
timed_rises count m [] rises = tt
timed_rises count m (clock t ∷ s) rises =
    (rises.0, told_timed t (range_with_len 0 count) (flat_map (with_times count) s) (timed_rises count t s rises.1))
timed_rises count m (port j p ∷ s) rises = (rises.0, timed_rises count m s rises.1)
timed_rises count m (failed j c ∷ s) rises = (rises.0, timed_rises count m s rises.1)

pub was_of_jobs : (configs : List ConfigValue) (s : List SocketEvent) (r : List RunEvent)
    (cut : ℕ) → WasServed configs (Some s) (Some r) cut → NeverFalls 0 s → AreOfJobs r
was_of_jobs configs s r cut was rises =
    let h : List MarkedHappening = was.0 in
    let timed : NeverEarlier 0 (filter_map timed_event h) =
    subst (NeverEarlier 0) (sym was.1.at_sockets_so) (timed_rises (length configs) 0 s rises) in
    subst AreOfJobs was.1.at_runs_so (serves_of_jobs configs h was.2 (back_timed 0 h timed))
