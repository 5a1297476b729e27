-- What is to run at an instance, as events come to it and their orders are carried out.
use Rattle.std.proofs.Common.{◌≡◌, ℕ, ◌≤◌, Bool, true, false, List, [], ◌∷◌, ◌++◌, map, Option, Some, None, refl, sym, ap, subst, ◌∙◌, inl, inr, append-nil}
use Rattle.std.specs.Prelude.{nat_lt, cond}
use Rattle.std.specs.List.{AllByRecursion}
use Rattle.std.specs.Option.{option_map_or}
use Rattle.std.proofs.lemmas.Bool.{le-ltb}
use Rattle.job_queue.specs.Jobs.{Jobs, jobs_after_end, jobs_without, running_job}
use Rattle.execution.specs.Job.{JobValue}
use Rattle.execution.specs.Orders.{OrderValue, orders_of, task_of}
use Rattle.execution.specs.Steps.{StepValue, ends, jobs_after_steps, then_starts, ending_of}
use Rattle.execution_messages.specs.Progress.{completed_text}
use Rattle.run_calls.specs.Outcomes.{OutcomeValue}
use Rattle.instance_core.specs.Calls.{CallEventValue, tick as time_passes, start_jobs, end_late_jobs, end_job}
use Rattle.instance_core.specs.State.{InstanceState}
use Rattle.instance_core.specs.Visible.{Blob}
use Rattle.instance_core.specs.Changes.{InstanceChange, Text, Goes, Ends, Wrote, Keeps, Expires, Does, Pushes, Settles, state_after_change, state_after_changes, MadeInPart}
use Rattle.instance_core.specs.Answer.{answer, state_after, orders_at, ending_at, ending_changes, ending_steps}
use Rattle.instance_core.specs.Apart.{IsCallOn}
use Rattle.server_events.specs.Events.{EventValue, LoneEvent, WhatValue, opened, received, took, closed, tick, ended}
use Rattle.conn_core.specs.declared.event.CallEvent.{CallEvent}
use Rattle.conn_core.specs.declared.event.CallEvent.TheVariants as Seen
use Rattle.conn_core.specs.Calls.{cancels}
use Rattle.served_instance.specs.Calls.{call_event_on}
use Rattle.served_instance.specs.Connections.{open_at, with_closed}
use Rattle.served_instance.specs.Events.{bytes_events}
use Rattle.served_instance.specs.Lone.{LoneInstance, after_call_event, after_call_events, after_bytes_on, effect_of, orders_of_what, lone_at_moment}
use Rattle.served_instance.specs.declared.refusal.EventRefusal.{EventRefusal}
use Rattle.served_instance.specs.declared.refusal.EventRefusal.TheVariants.{NoSuchJob}
use Rattle.served_instance.specs.Refusals.{refusal_of, refusal_of_what, after_event_unless, orders_unless}
use Rattle.served_instance.specs.Short.{IsCutShort, IsEndedInPart, IsCutEffect}
use Rattle.served_instance.proofs.Watches.{happened_state, all_done, bytes_on}
use Rattle.serve.specs.RunEvents.{RunEvent, ordered, gave}
use Rattle.serve.specs.Served.{MayStep}
use Rattle.job_runs.specs.Ran.{Order}
use Rattle.job_runs.proofs.Fitting.{Fits, fits_push, fits_done, fits_without, fits_end, fits_over}
use Rattle.job_runs.proofs.Planned.{plan_of, is_over, Leads, leads_nothing, turn_leads, tick_leads, end_leads}
use Rattle.job_runs.proofs.NoTurns.{IsNoTurn, AreNoTurns, event_no_turn, IsStored, ending_stored}

-- ---- changes that start no job and end none

change_fits : (plan : ℕ → Order) (x : InstanceChange) (s : InstanceState) → IsNoTurn x →
    Fits plan s.jobs → Fits plan (state_after_change x s).jobs
change_fits plan (Text t) s quiet h = h
change_fits plan (Goes id call) s quiet h = h
change_fits plan (Ends id) s quiet h = h
change_fits plan (Wrote w) s quiet h = h
change_fits plan (Keeps results) s quiet h = h
change_fits plan Expires s quiet h = h
change_fits plan (Does operation) s quiet h = fits_done plan operation s.jobs h
change_fits plan (Pushes job) s quiet h = fits_push plan job s.jobs h
change_fits plan (Settles steps) s quiet h = absurd quiet

front_fits : (plan : ℕ → Order) (made left : List InstanceChange) (s : InstanceState) →
    AreNoTurns (made ++ left) → Fits plan s.jobs → Fits plan (state_after_changes made s).jobs
front_fits plan [] left s quiet h = h
front_fits plan (x ∷ made) left s quiet h =
    front_fits plan made left (state_after_change x s) quiet.1 (change_fits plan x s quiet.0 h)

made_fits : (plan : ℕ → Order) (c : ℕ) (s t : InstanceState) (event : CallEventValue) →
    IsCallOn c event → MadeInPart (answer s event).changes s t → Fits plan s.jobs → Fits plan t.jobs
made_fits plan c s t event on made h =
    subst (λ (x : InstanceState). Fits plan x.jobs) (sym made.so_far)
    (front_fits plan made.made made.left s (subst AreNoTurns made.front (event_no_turn c s event on)) h)

event_fits : (plan : ℕ → Order) (c : ℕ) (s : InstanceState) (event : CallEventValue) →
    IsCallOn c event → Fits plan s.jobs → Fits plan (state_after s event).jobs
event_fits plan c s event on h =
    let xs : List InstanceChange = (answer s event).changes in
    front_fits plan xs [] s (subst AreNoTurns (sym (append-nil xs)) (event_no_turn c s event on)) h

cut_fits : (plan : ℕ → Order) (c : ℕ) (events : List CallEventValue) (s t : InstanceState) →
    AllByRecursion (IsCallOn c) events → IsCutShort events s t → Fits plan s.jobs → Fits plan t.jobs
cut_fits plan c [] s t on same h = subst (λ (x : InstanceState). Fits plan x.jobs) (sym same) h
cut_fits plan c (event ∷ events) s t on (inl part) h = made_fits plan c s t event on.0 part h
cut_fits plan c (event ∷ events) s t on (inr rest) h =
    cut_fits plan c events (state_after s event) t on.1 rest (event_fits plan c s event on.0 h)

event_on : (c : ℕ) (e : CallEvent) → IsCallOn c (call_event_on c e)
event_on c (Seen.Head s method) = refl
event_on c (Seen.Message s bytes) = refl
event_on c (Seen.Fault s refusal) = refl
event_on c (Seen.End s) = refl
event_on c (Seen.Cancel s) = refl

calls_fit : (plan : ℕ → Order) (c : ℕ) (es : List CallEvent) (l : LoneInstance) → Fits plan l.state.jobs →
    Fits plan (after_call_events c es l).state.jobs
calls_fit plan c [] l h = h
calls_fit plan c (e ∷ es) l h =
    let next : LoneInstance = after_call_event (call_event_on c e) l in
    calls_fit plan c es next (subst (λ (x : InstanceState). Fits plan x.jobs) (sym (happened_state (call_event_on c e) l))
    (event_fits plan c l.state (call_event_on c e) (event_on c e) h))

bytes_fit : (plan : ℕ → Order) (c : ℕ) (bytes : List ℕ) (l : LoneInstance) →
    Fits plan l.state.jobs → Fits plan (after_bytes_on c bytes l).state.jobs
bytes_fit plan c bytes l h =
    cut_fits plan c (bytes_events c bytes l) l.state (after_bytes_on c bytes l).state (bytes_on c bytes l) (all_done c bytes l) h

-- ---- the outcome of a job

stored_same : (made left : List InstanceChange) (s : InstanceState) →
    AllByRecursion IsStored (made ++ left) → (state_after_changes made s).jobs ≡ s.jobs
stored_same [] left s h = refl
stored_same (Text t ∷ made) left s h = stored_same made left (state_after_change (Text t) s) h.1
stored_same (Keeps results ∷ made) left s h =
    stored_same made left (state_after_change (Keeps results) s) h.1
stored_same (Goes id call ∷ made) left s h = absurd h.0
stored_same (Ends id ∷ made) left s h = absurd h.0
stored_same (Wrote w ∷ made) left s h = absurd h.0
stored_same (Expires ∷ made) left s h = absurd h.0
stored_same (Does operation ∷ made) left s h = absurd h.0
stored_same (Pushes job ∷ made) left s h = absurd h.0
stored_same (Settles steps ∷ made) left s h = absurd h.0

then_settled : (xs : List InstanceChange) (steps : List StepValue) (s : InstanceState) →
    AllByRecursion IsStored xs →
    (state_after_changes (xs ++ Settles steps ∷ []) s).jobs ≡ jobs_after_steps steps s.jobs
then_settled [] steps s h = refl
then_settled (Text t ∷ xs) steps s h = then_settled xs steps (state_after_change (Text t) s) h.1
then_settled (Keeps results ∷ xs) steps s h =
    then_settled xs steps (state_after_change (Keeps results) s) h.1
then_settled (Goes id call ∷ xs) steps s h = absurd h.0
then_settled (Ends id ∷ xs) steps s h = absurd h.0
then_settled (Wrote w ∷ xs) steps s h = absurd h.0
then_settled (Expires ∷ xs) steps s h = absurd h.0
then_settled (Does operation ∷ xs) steps s h = absurd h.0
then_settled (Pushes job ∷ xs) steps s h = absurd h.0
then_settled (Settles more ∷ xs) steps s h = absurd h.0

ended_without : (n : ℕ) (outcome : OutcomeValue) (l m : LoneInstance) → IsEndedInPart n outcome l m →
    m.state.jobs ≡ jobs_without n l.state.jobs
ended_without n outcome l m h =
    let all = subst (AllByRecursion IsStored) h.made.front (ending_stored l.state outcome (running_job n l.state.jobs)) in
    let same : h.left.jobs ≡ l.state.jobs = ap (λ (x : InstanceState). x.jobs) h.made.so_far
    ∙ stored_same h.made.made h.made.left l.state all in
    ap (λ (k : LoneInstance). k.state.jobs) h.gone ∙ ap (jobs_without n) same

-- ---- what an event tells of the runs

-- that the run of a job gave an outcome
abbrev pub outcome_told : ℕ → WhatValue → List RunEvent
outcome_told i (opened c) = []
outcome_told i (received c bytes) = []
outcome_told i (took c n) = []
outcome_told i (closed c) = []
outcome_told i tick = []
outcome_told i (ended n outcome) = gave i n outcome ∷ []

-- behind what it tells, the orders of an event lead to what it makes of its instance
abbrev LeadsBy : ℕ → List RunEvent → WhatValue → List OrderValue → LoneInstance → Type 0
LeadsBy i before what orders m =
    Leads i (before ++ outcome_told i what) (map (ordered i) orders) m.state.jobs

leads_at : (i : ℕ) (before es : List RunEvent) (jobs after : Jobs JobValue) → after ≡ jobs →
    Leads i before es jobs → Leads i before es after
leads_at i before es jobs after is h = subst (λ (x : Jobs JobValue). Leads i before es x) (sym is) h

more_fits : (i : ℕ) (before : List RunEvent) (jobs : Jobs JobValue) → Fits (plan_of i before) jobs →
    Fits (plan_of i (before ++ [])) jobs
more_fits i before jobs h =
    subst (λ (b : List RunEvent). Fits (plan_of i b) jobs) (sym (append-nil before)) h

-- the job of a number ends
end_turn : (i n : ℕ) (outcome : OutcomeValue) (job : JobValue) (before : List RunEvent) (l : LoneInstance) →
    running_job n l.state.jobs ≡ Some job → Fits (plan_of i before) l.state.jobs
    → Leads i (before ++ gave i n outcome ∷ [])
    (map (ordered i) (orders_at l.state (end_job n outcome)))
    (after_call_event (end_job n outcome) l).state.jobs
end_turn i n outcome job before l runs h =
    let s : InstanceState = l.state in
    let e : RunEvent = gave i n outcome in
    let xs : List InstanceChange = ending_changes s outcome (running_job n s.jobs) in
    let steps : List StepValue = ending_steps s n outcome (running_job n s.jobs) in
    let settled : (after_call_event (end_job n outcome) l).state.jobs ≡ jobs_after_steps steps s.jobs =
    ap (λ (x : InstanceState). x.jobs) (happened_state (end_job n outcome) l)
    ∙ then_settled xs steps s (ending_stored s outcome (running_job n s.jobs)) in
    let fits : (operation : List ℕ) → Fits (plan_of i (before ++ e ∷ [])) (jobs_after_end n operation s.jobs) =
    λ operation. fits_end n operation (plan_of i before) (plan_of i (before ++ e ∷ [])) s.jobs (is_over i n before e refl (λ x. refl)) h in
    let operation : List ℕ = completed_text n job.action (ending_at s outcome job).end_is in
    let own : List StepValue = then_starts s.slots s.moment (ends n operation ∷ []) s.jobs in
    let so : steps ≡ own = ap (ending_steps s n outcome) runs
    ∙ ap (λ (o : Option JobValue). then_starts s.slots s.moment (ending_of n (ending_at s outcome job).end_is o) s.jobs) runs in
    leads_at i (before ++ e ∷ []) (map (ordered i) (orders_at s (end_job n outcome))) (jobs_after_steps steps s.jobs)
    (after_call_event (end_job n outcome) l).state.jobs settled
    (subst (λ (xs : List StepValue). Leads i (before ++ e ∷ []) (map (ordered i) (orders_of xs s.jobs)) (jobs_after_steps xs s.jobs))
    (sym so)
    (end_leads i s.slots s.moment n operation s.jobs (before ++ e ∷ []) (fits operation)))

-- no job runs under a number of which an outcome is refused
runs_there : (n : ℕ) (outcome : OutcomeValue) (l : LoneInstance) → refusal_of_what (ended n outcome) l ≡ None →
    (job : JobValue) × (running_job n l.state.jobs ≡ Some job)
runs_there n outcome l taken = go (running_job n l.state.jobs) refl where
  go : (o : Option JobValue) → running_job n l.state.jobs ≡ o →
      (job : JobValue) × (running_job n l.state.jobs ≡ Some job)
  go (Some job) is = (job, is)
  go None is = absurd (let no : Some NoSuchJob ≡ None = rw is at taken in cc)

effect_leads : (i : ℕ) (before : List RunEvent) (what : WhatValue) (l : LoneInstance) →
    refusal_of_what what l ≡ None → Fits (plan_of i before) l.state.jobs →
    LeadsBy i before what (orders_of_what what l) (effect_of what l)
effect_leads i before (opened c) l taken h =
    leads_nothing i (before ++ []) l.state.jobs (more_fits i before l.state.jobs h)
effect_leads i before (received c bytes) l taken h =
    let mid : LoneInstance = after_bytes_on c bytes l in
    let s : InstanceState = mid.state in
    leads_at i (before ++ []) (map (ordered i) (orders_at s start_jobs)) (state_after s start_jobs).jobs
    (after_call_event start_jobs mid).state.jobs
    (ap (λ (x : InstanceState). x.jobs) (happened_state start_jobs mid))
    (turn_leads i s.slots s.moment [] s.jobs (before ++ []) tt (more_fits i before s.jobs (bytes_fit (plan_of i before) c bytes l h)))
effect_leads i before (took c n) l taken h =
    leads_nothing i (before ++ []) l.state.jobs (more_fits i before l.state.jobs h)
effect_leads i before (closed c) l taken h =
    let cs : List CallEvent = option_map_or (λ p. cancels p.history) (open_at c l.connections) [] in
    let gone : LoneInstance = record l { connections = with_closed c l.connections } in
    leads_nothing i (before ++ []) (after_call_events c cs gone).state.jobs
    (more_fits i before (after_call_events c cs gone).state.jobs (calls_fit (plan_of i before) c cs gone h))
effect_leads i before tick l taken h =
    let mid : LoneInstance = after_call_event time_passes l in
    let s : InstanceState = mid.state in
    let fits : Fits (plan_of i before) s.jobs = subst (λ (x : InstanceState). Fits (plan_of i before) x.jobs)
    (sym (happened_state time_passes l)) h in
    leads_at i (before ++ []) (map (ordered i) (orders_at s end_late_jobs)) (state_after s end_late_jobs).jobs
    (after_call_event end_late_jobs mid).state.jobs
    (ap (λ (x : InstanceState). x.jobs) (happened_state end_late_jobs mid))
    (tick_leads i s.slots s.moment s.jobs (before ++ []) (more_fits i before s.jobs fits))
effect_leads i before (ended n outcome) l taken h =
    let runs = runs_there n outcome l taken in
    end_turn i n outcome runs.0 before l runs.1 h

-- ---- what want of memory leaves

same_leads : (i : ℕ) (before : List RunEvent) (l m : LoneInstance) → m.state.jobs ≡ l.state.jobs →
    Fits (plan_of i before) l.state.jobs → Leads i (before ++ []) [] m.state.jobs
same_leads i before l m is h =
    leads_at i (before ++ []) [] l.state.jobs m.state.jobs is
    (leads_nothing i (before ++ []) l.state.jobs (more_fits i before l.state.jobs h))

short_leads : (i : ℕ) (before : List RunEvent) (what : WhatValue) (l m : LoneInstance) →
    IsCutEffect what l m → Fits (plan_of i before) l.state.jobs → LeadsBy i before what [] m
short_leads i before (opened c) l m is h =
    same_leads i before l m (ap (λ (k : LoneInstance). k.state.jobs) is) h
short_leads i before (received c bytes) l m b h =
    let fits : Fits (plan_of i before) b.left.jobs =
    cut_fits (plan_of i before) c (bytes_events c bytes l) l.state b.left (bytes_on c bytes l) b.cut h in
    leads_at i (before ++ []) [] b.left.jobs m.state.jobs (ap (λ (k : LoneInstance). k.state.jobs) b.gone)
    (leads_nothing i (before ++ []) b.left.jobs (more_fits i before b.left.jobs fits))
short_leads i before (took c n) l m is h = absurd is
short_leads i before (closed c) l m is h = absurd is
short_leads i before tick l m is h =
    same_leads i before l m (ap (λ (k : LoneInstance). k.state.jobs) is) h
short_leads i before (ended n outcome) l m b h =
    let e : RunEvent = gave i n outcome in
    let gone : Jobs JobValue = jobs_without n l.state.jobs in
    leads_at i (before ++ e ∷ []) [] gone m.state.jobs (ended_without n outcome l m b)
    (leads_nothing i (before ++ e ∷ []) gone (fits_without n (plan_of i before) (plan_of i (before ++ e ∷ [])) l.state.jobs
    (is_over i n before e refl (λ x. refl)) h))

-- ---- an event that is refused

off : {A : Type 0} (b : Bool) (x y : A) → b ≡ false → cond b x y ≡ y
off b x y is = ap (λ (t : Bool). cond t x y) is

-- for its own reason, as time does not go back
by_what : (e : LoneEvent) (l : LoneInstance) → l.state.moment ≤ e.moment →
    refusal_of e l ≡ refusal_of_what e.what l
by_what e l times =
    off (nat_lt e.moment l.state.moment) _ (refusal_of_what e.what l) (le-ltb e.moment l.state.moment times)

-- .. which is none of the moment, nor of what the parent has
same_refusal : (what : WhatValue) (moment : ℕ) (parent : List Blob) (l : LoneInstance) →
    refusal_of_what what (lone_at_moment moment parent l) ≡ refusal_of_what what l
same_refusal (opened c) moment parent l = refl
same_refusal (received c bytes) moment parent l = refl
same_refusal (took c n) moment parent l = refl
same_refusal (closed c) moment parent l = refl
same_refusal tick moment parent l = refl
same_refusal (ended n outcome) moment parent l = refl

refused_leads : (i : ℕ) (before : List RunEvent) (what : WhatValue) (l : LoneInstance)
    (refusal : EventRefusal) → refusal_of_what what l ≡ Some refusal →
    Fits (plan_of i before) l.state.jobs → LeadsBy i before what [] l
refused_leads i before (opened c) l refusal is h = same_leads i before l l refl h
refused_leads i before (received c bytes) l refusal is h = same_leads i before l l refl h
refused_leads i before (took c n) l refusal is h = same_leads i before l l refl h
refused_leads i before (closed c) l refusal is h = same_leads i before l l refl h
refused_leads i before tick l refusal is h = same_leads i before l l refl h
refused_leads i before (ended n outcome) l refusal is h =
    let e : RunEvent = gave i n outcome in
    leads_nothing i (before ++ e ∷ []) l.state.jobs
    (fits_over n (plan_of i before) (plan_of i (before ++ e ∷ [])) l.state.jobs (is_over i n before e refl (λ x. refl)) none h) where
      none : task_of n l.state.jobs ≡ None
      none = go (running_job n l.state.jobs) refl where
        go : (o : Option JobValue) → running_job n l.state.jobs ≡ o → task_of n l.state.jobs ≡ None
        go None there = rw there refl
        go (Some job) there = absurd (let no : None ≡ Some refusal = rw there at is in cc)

-- ---- each event

pub step_leads : (parent : List Blob) (before : List RunEvent) (e : EventValue) (marked : Bool)
    (l k : LoneInstance) (orders : List OrderValue) → l.state.moment ≤ e.lone.moment →
    MayStep parent e.lone marked l k orders → Fits (plan_of e.instance before) l.state.jobs
    → Leads e.instance (before ++ outcome_told e.instance e.lone.what)
    (map (ordered e.instance) orders) k.state.jobs
step_leads parent before e true l k orders times may h =
    subst (λ (os : List OrderValue). LeadsBy e.instance before e.lone.what os k) (sym may.2)
    (short_leads e.instance before e.lone.what (lone_at_moment e.lone.moment parent l) k may.1 h)
step_leads parent before e false l k orders times may h =
    subst (λ (m : LoneInstance). LeadsBy e.instance before e.lone.what orders m) (sym may.0)
    (subst (λ (os : List OrderValue). LeadsBy e.instance before e.lone.what os (after_event_unless parent e.lone l (refusal_of e.lone l)))
    (sym may.1) (go (refusal_of e.lone l) refl)) where
      go : (o : Option EventRefusal) → refusal_of e.lone l ≡ o →
          LeadsBy e.instance before e.lone.what (orders_unless parent e.lone l o)
          (after_event_unless parent e.lone l o)
      go None is = effect_leads e.instance before e.lone.what (lone_at_moment e.lone.moment parent l)
          (same_refusal e.lone.what e.lone.moment parent l ∙ sym (by_what e.lone l times) ∙ is) h
      go (Some refusal) is = refused_leads e.instance before e.lone.what l refusal (sym (by_what e.lone l times) ∙ is) h
