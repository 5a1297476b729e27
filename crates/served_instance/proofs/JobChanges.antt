-- Whatever happens to an instance, its jobs change only as a queue of jobs may: one change after
-- another.
use Rattle.std.proofs.Common.{◌≡◌, ℕ, List, [], ◌∷◌, ◌++◌, Option, Some, None, refl, sym, ap, ◌∙◌, inl, inr}
use Rattle.std.specs.Option.{option_map_or}
use Rattle.conn_core.specs.declared.event.CallEvent.{CallEvent}
use Rattle.conn_core.specs.Calls.{cancels}
use Rattle.job_queue.specs.Jobs.{Jobs}
use Rattle.job_queue.specs.Changes as Queue
use Rattle.job_queue.specs.Changes.{JobChange, jobs_after, jobs_after_all}
use Rattle.execution.specs.Job.{JobValue}
use Rattle.execution.specs.Steps.{StepValue, change_of, jobs_after_steps}
use Rattle.instance_core.specs.Answer.{answer, state_after}
use Rattle.instance_core.specs.Calls.{CallEventValue, tick as time_passes, start_jobs, end_late_jobs, end_job}
use Rattle.instance_core.specs.Changes.{InstanceChange, Text, Goes, Ends, Wrote, Keeps, Expires, Does, Pushes, Settles, state_after_change, state_after_changes}
use Rattle.instance_core.specs.State.{InstanceState}
use Rattle.instance_core.specs.Visible.{Blob}
use Rattle.server_events.specs.Events.{LoneEvent, WhatValue, opened, received, took, closed, tick, ended}
use Rattle.served_instance.specs.declared.refusal.EventRefusal.{EventRefusal}
use Rattle.served_instance.specs.Calls.{call_event_on}
use Rattle.served_instance.specs.Connections.{open_at, with_closed}
use Rattle.served_instance.specs.Events.{bytes_events}
use Rattle.served_instance.specs.Lone.{LoneInstance, after_call_event, after_call_events, after_bytes_on, effect_of, lone_at_moment}
use Rattle.served_instance.specs.Refusals.{refusal_of, after_event_unless, lone_step}
use Rattle.served_instance.specs.Short.{IsCutShort, IsCutEffect, Short}
use Rattle.served_instance.proofs.Watches.{all_done, happened_state}

-- ---- chains of changes

-- some changes lead from the one to the other
pub record Become (old new : Jobs JobValue) : Type 0 where
  pub changes : List (JobChange JobValue)
  pub so : new ≡ jobs_after_all changes old

pub unchanged : (old new : Jobs JobValue) → new ≡ old → Become old new
unchanged old new same = record { changes = []; so = same }

changed : (change : JobChange JobValue) (jobs : Jobs JobValue) → Become jobs (jobs_after change jobs)
changed change jobs = record { changes = change ∷ []; so = refl }

after_both : (xs ys : List (JobChange JobValue)) (jobs : Jobs JobValue) →
    jobs_after_all (xs ++ ys) jobs ≡ jobs_after_all ys (jobs_after_all xs jobs)
after_both [] ys jobs = refl
after_both (x ∷ xs) ys jobs = after_both xs ys (jobs_after x jobs)

pub become_both : (a b c : Jobs JobValue) → Become a b → Become b c → Become a c
become_both a b c h more = record {
  changes = h.changes ++ more.changes;
  so = more.so ∙ ap (jobs_after_all more.changes) h.so ∙ sym (after_both h.changes more.changes a);
}

-- ---- the changes of an instance

steps_become : (steps : List StepValue) (jobs : Jobs JobValue) → Become jobs (jobs_after_steps steps jobs)
steps_become [] jobs = unchanged jobs jobs refl
steps_become (x ∷ steps) jobs =
    let next : Jobs JobValue = jobs_after (change_of x) jobs in
    become_both jobs next (jobs_after_steps steps next) (changed (change_of x) jobs) (steps_become steps next)

change_becomes : (c : InstanceChange) (s : InstanceState) → Become s.jobs (state_after_change c s).jobs
change_becomes (Text t) s = unchanged s.jobs s.jobs refl
change_becomes (Goes id call) s = unchanged s.jobs s.jobs refl
change_becomes (Ends id) s = unchanged s.jobs s.jobs refl
change_becomes (Wrote w) s = unchanged s.jobs s.jobs refl
change_becomes (Keeps results) s = unchanged s.jobs s.jobs refl
change_becomes Expires s = unchanged s.jobs s.jobs refl
change_becomes (Does operation) s = changed (Queue.does operation) s.jobs
change_becomes (Pushes job) s = changed (Queue.pushes job) s.jobs
change_becomes (Settles steps) s = steps_become steps s.jobs

changes_become : (cs : List InstanceChange) (s : InstanceState) → Become s.jobs (state_after_changes cs s).jobs
changes_become [] s = unchanged s.jobs s.jobs refl
changes_become (c ∷ cs) s =
    let next : InstanceState = state_after_change c s in
    become_both s.jobs next.jobs (state_after_changes cs next).jobs (change_becomes c s) (changes_become cs next)

same_state : (s t u : InstanceState) → u ≡ t → Become s.jobs t.jobs → Become s.jobs u.jobs
same_state s t u is h = become_both s.jobs t.jobs u.jobs h (unchanged t.jobs u.jobs (ap (λ (x : InstanceState). x.jobs) is))

-- ---- events

happened_becomes : (event : CallEventValue) (l : LoneInstance) → Become l.state.jobs (after_call_event event l).state.jobs
happened_becomes event l = same_state l.state (state_after l.state event) (after_call_event event l).state (happened_state event l)
    (changes_become (answer l.state event).changes l.state)

cut_becomes : (es : List CallEventValue) (s t : InstanceState) → IsCutShort es s t → Become s.jobs t.jobs
cut_becomes [] s t same = same_state s s t same (unchanged s.jobs s.jobs refl)
cut_becomes (e ∷ es) s t (inl part) = same_state s (state_after_changes part.made s) t part.so_far (changes_become part.made s)
cut_becomes (e ∷ es) s t (inr rest) =
    let next : InstanceState = state_after s e in
    become_both s.jobs next.jobs t.jobs (changes_become (answer s e).changes s) (cut_becomes es next t rest)

calls_become : (c : ℕ) (es : List CallEvent) (l : LoneInstance) → Become l.state.jobs (after_call_events c es l).state.jobs
calls_become c [] l = unchanged l.state.jobs l.state.jobs refl
calls_become c (e ∷ es) l =
    let next : LoneInstance = after_call_event (call_event_on c e) l in
    become_both l.state.jobs next.state.jobs (after_call_events c es next).state.jobs (happened_becomes (call_event_on c e) l)
    (calls_become c es next)

-- one thing happens, and then another
two_become : (one other : CallEventValue) (l : LoneInstance) →
    Become l.state.jobs (after_call_event other (after_call_event one l)).state.jobs
two_become one other l =
    let next : LoneInstance = after_call_event one l in
    become_both l.state.jobs next.state.jobs (after_call_event other next).state.jobs (happened_becomes one l) (happened_becomes other next)

effect_becomes : (what : WhatValue) (l : LoneInstance) → Become l.state.jobs (effect_of what l).state.jobs
effect_becomes (opened c) l = unchanged l.state.jobs l.state.jobs refl
effect_becomes (received c bytes) l =
    let next : LoneInstance = after_bytes_on c bytes l in
    become_both l.state.jobs next.state.jobs (after_call_event start_jobs next).state.jobs
    (cut_becomes (bytes_events c bytes l) l.state next.state (all_done c bytes l)) (happened_becomes start_jobs next)
effect_becomes (took c count) l = unchanged l.state.jobs l.state.jobs refl
effect_becomes (closed c) l =
    calls_become c (option_map_or (λ p. cancels p.history) (open_at c l.connections) [])
    (record l { connections = with_closed c l.connections })
effect_becomes tick l = two_become time_passes end_late_jobs l
effect_becomes (ended number outcome) l = happened_becomes (end_job number outcome) l

pub stepped_become : (parent : List Blob) (e : LoneEvent) (l : LoneInstance) → Become l.state.jobs (lone_step parent e l).state.jobs
stepped_become parent e l = go (refusal_of e l) where
  go : (o : Option EventRefusal) → Become l.state.jobs (after_event_unless parent e l o).state.jobs
  go None = effect_becomes e.what (lone_at_moment e.moment parent l)
  go (Some refusal) = unchanged l.state.jobs l.state.jobs refl

-- ---- what want of memory leaves

ended_becomes : (n : ℕ) (l m : LoneInstance) (left : InstanceState) → m.state.jobs ≡ jobs_after (Queue.forgets n) left.jobs →
    Become l.state.jobs left.jobs → Become l.state.jobs m.state.jobs
ended_becomes n l m left gone h =
    become_both l.state.jobs left.jobs m.state.jobs h (record { changes = Queue.forgets n ∷ []; so = gone })

cut_effect_becomes : (what : WhatValue) (l m : LoneInstance) → IsCutEffect what l m → Become l.state.jobs m.state.jobs
cut_effect_becomes (opened c) l m is = unchanged l.state.jobs m.state.jobs (ap (λ (x : LoneInstance). x.state.jobs) is)
cut_effect_becomes (received c bytes) l m b =
    become_both l.state.jobs b.left.jobs m.state.jobs (cut_becomes (bytes_events c bytes l) l.state b.left b.cut)
    (unchanged b.left.jobs m.state.jobs (ap (λ (x : LoneInstance). x.state.jobs) b.gone))
cut_effect_becomes (took c n) l m is = absurd is
cut_effect_becomes (closed c) l m is = absurd is
cut_effect_becomes tick l m is = unchanged l.state.jobs m.state.jobs (ap (λ (x : LoneInstance). x.state.jobs) is)
cut_effect_becomes (ended n outcome) l m b =
    ended_becomes n l m b.left (ap (λ (x : LoneInstance). x.state.jobs) b.gone)
    (same_state l.state (state_after_changes b.made.made l.state) b.left b.made.so_far (changes_become b.made.made l.state))

pub short_becomes : (parent : List Blob) (e : LoneEvent) (l m : LoneInstance) → Short parent e l m → Become l.state.jobs m.state.jobs
short_becomes parent e l m short = cut_effect_becomes e.what (lone_at_moment e.moment parent l) m short
