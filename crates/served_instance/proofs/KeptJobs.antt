-- Which jobs run and which wait after an event that was refused for want of memory.
use Rattle.std.proofs.Common.{◌≡◌, ℕ, Bool, true, false, cond, List, [], ◌∷◌, ◌++◌, map, Option, Some, None, Result, Ok, Err, refl, sym, ap, ◌∙◌, subst, inl, inr, append_assoc, append-nil}
use Rattle.std.specs.List.{AllByRecursion}
use Rattle.job_queue.specs.Jobs.{Jobs, jobs_without, running_job}
use Rattle.execution.specs.Job.{JobValue}
use Rattle.execution.specs.Execute as Executor
use Rattle.execution.specs.Execute.{ExecuteChange}
use Rattle.run_calls.specs.Outcomes.{OutcomeValue}
use Rattle.instance_core.specs.Method.{Method}
use Rattle.instance_core.specs.Method.TheVariants as Called
use Rattle.instance_core.specs.Refusal.{Refusal}
use Rattle.instance_core.specs.Writing as Writing
use Rattle.instance_core.specs.Writing.{OpenWriteValue, PartValue, WrittenValue}
use Rattle.instance_core.specs.declared.event.CallId.{CallId}
use Rattle.instance_core.specs.Calls.{CallValue, ProgressValue, waits, has, writes, watches, CallEventValue, head, message, fault, end, cancel, tick as time_passes, start_jobs, end_late_jobs, end_job, call_at}
use Rattle.instance_core.specs.Replies.{AnswerValue, one_message, messages, range, watching}
use Rattle.instance_core.specs.State.{InstanceState}
use Rattle.instance_core.specs.Visible.{Blob}
use Rattle.instance_core.specs.Changes.{InstanceChange, Text, Goes, Ends, Wrote, Keeps, Expires, Does, Pushes, Settles, state_after_change, state_after_changes, MadeInPart}
use Rattle.instance_core.specs.Methods.{answer_to, request_changes, execution_change, execution_changes, executed}
use Rattle.instance_core.specs.Writes.{part_changes, first_part_changes, changes_asked, first_changes, next_changes, first_outcome, next_outcome}
use Rattle.instance_core.specs.Answer.{answer, state_after, head_answer, first_write_answer, next_write_answer, first_message_answer, answer_by_progress, message_answer, fault_by_progress, fault_answer, call_change, end_answer_by_progress, request_end_answer, ending_changes}
use Rattle.instance_core.specs.Apart.{IsCallOn}
use Rattle.instance_core.proofs.NamedTexts.{all_append}
use Rattle.server_events.specs.Events.{LoneEvent, WhatValue, opened, received, took, closed, tick, ended}
use Rattle.served_instance.specs.Lone.{LoneInstance, lone_at_moment}
use Rattle.served_instance.specs.Events.{bytes_events}
use Rattle.served_instance.specs.Losses.{KeepsJobs, IsNoOutcome}
use Rattle.served_instance.specs.Short.{IsCutShort, IsEndedInPart, IsCutEffect, Short}
use Rattle.served_instance.proofs.Watches.{bytes_on}

-- ---- jobs

same_kept : (jobs : Jobs JobValue) → KeepsJobs jobs jobs
same_kept jobs = record { running = refl; more = []; waiting = sym (append-nil jobs.waiting) }

then_kept : (a b c : Jobs JobValue) → KeepsJobs a b → KeepsJobs b c → KeepsJobs a c
then_kept a b c h k = record {
  running = k.running ∙ h.running;
  more = h.more ++ k.more;
  waiting = k.waiting ∙ ap (λ (ws : List (ℕ × JobValue)). ws ++ k.more) h.waiting ∙ append_assoc a.waiting h.more k.more;
}

-- ---- changes that start no job and end none

abbrev IsNoTurn : InstanceChange → Type 0
IsNoTurn (Text t) = Unit {0}
IsNoTurn (Goes id call) = Unit {0}
IsNoTurn (Ends id) = Unit {0}
IsNoTurn (Wrote w) = Unit {0}
IsNoTurn (Keeps results) = Unit {0}
IsNoTurn Expires = Unit {0}
IsNoTurn (Does operation) = Unit {0}
IsNoTurn (Pushes job) = Unit {0}
IsNoTurn (Settles steps) = ⊥

abbrev AreNoTurns : List InstanceChange → Type 0
AreNoTurns xs = AllByRecursion IsNoTurn xs

change_keeps : (x : InstanceChange) (s : InstanceState) → IsNoTurn x → KeepsJobs s.jobs (state_after_change x s).jobs
change_keeps (Text t) s h = same_kept s.jobs
change_keeps (Goes id call) s h = same_kept s.jobs
change_keeps (Ends id) s h = same_kept s.jobs
change_keeps (Wrote w) s h = same_kept s.jobs
change_keeps (Keeps results) s h = same_kept s.jobs
change_keeps Expires s h = same_kept s.jobs
change_keeps (Does operation) s h = record { running = refl; more = []; waiting = sym (append-nil s.jobs.waiting) }
change_keeps (Pushes job) s h = record { running = refl; more = (s.jobs.next, job) ∷ []; waiting = refl }
change_keeps (Settles steps) s h = absurd h

front_keeps : (made left : List InstanceChange) (s : InstanceState) → AreNoTurns (made ++ left) →
    KeepsJobs s.jobs (state_after_changes made s).jobs
front_keeps [] left s h = same_kept s.jobs
front_keeps (x ∷ made) left s h =
    let next = state_after_change x s in
    then_kept s.jobs next.jobs (state_after_changes made next).jobs (change_keeps x s h.0) (front_keeps made left next h.1)

-- ---- the changes of an event of a call

mapped : {A : Type 0} (P : InstanceChange → Type 0) (f : A → InstanceChange) → ((x : A) → P (f x)) → (xs : List A) →
    AllByRecursion P (map f xs)
mapped P f h [] = tt
mapped P f h (x ∷ xs) = (h x, mapped P f h xs)

on_result : {A E : Type 0} (P : Result A E → Type 0) → ((x : A) → P (Ok x)) → ((e : E) → P (Err e)) → (r : Result A E) → P r
on_result P f g (Ok x) = f x
on_result P f g (Err e) = g e

and_then : (xs : List InstanceChange) (x : InstanceChange) → AreNoTurns xs → IsNoTurn x → AreNoTurns (xs ++ x ∷ [])
and_then xs x h k = all_append IsNoTurn xs (x ∷ []) h (k, tt)

-- a text is used, or a part taken
use_or_part : {A : Type 0} (f : A → InstanceChange) → ((x : A) → IsNoTurn (f x)) →
    (b : Bool) (x : A) (s : InstanceState) (part : PartValue) → AreNoTurns (cond b (f x ∷ []) (part_changes true s part))
use_or_part f h true x s part = (h x, tt)
use_or_part f h false x s part = (tt, (tt, tt))

first_changes_no_turn : (s : InstanceState) (bytes : List ℕ) → AreNoTurns (first_changes s bytes)
first_changes_no_turn s bytes = on_result (λ r. AreNoTurns (changes_asked (first_part_changes s) r))
    (λ asked. use_or_part Text (λ t. tt) _ _ s asked.part) (λ refusal. tt) _

next_changes_no_turn : (s : InstanceState) (write : OpenWriteValue) (bytes : List ℕ) → AreNoTurns (next_changes s write bytes)
next_changes_no_turn s write bytes = on_result (λ r. AreNoTurns (changes_asked (part_changes false s) r)) (λ part. (tt, (tt, tt)))
    (λ refusal. tt) _

first_no_turn : (id : CallId) (method : Method) (xs : List InstanceChange) (r : Result WrittenValue Refusal) → AreNoTurns xs →
    AreNoTurns (first_write_answer id method xs r).changes
first_no_turn id method xs (Ok (Writing.Goes write)) h = and_then xs (Goes id (record { method = method; progress = writes write })) h tt
first_no_turn id method xs (Ok (Writing.Answered reply)) h = and_then xs (Ends id) h tt
first_no_turn id method xs (Err refusal) h = and_then xs (Ends id) h tt

next_no_turn : (id : CallId) (xs : List InstanceChange) (r : Result (Option (List ℕ)) Refusal) → AreNoTurns xs →
    AreNoTurns (next_write_answer id xs r).changes
next_no_turn id xs (Ok None) h = h
next_no_turn id xs (Ok (Some reply)) h = and_then xs (Ends id) h tt
next_no_turn id xs (Err refusal) h = and_then xs (Ends id) h tt

first_message_no_turn : (s : InstanceState) (id : CallId) (method : Method) (bytes : List ℕ) →
    AreNoTurns (first_message_answer s id method bytes).changes
first_message_no_turn s id Called.Write bytes =
    first_no_turn id Called.Write (first_changes s bytes) (first_outcome s bytes) (first_changes_no_turn s bytes)
first_message_no_turn s id method bytes = (tt, tt)

by_progress_no_turn : (s : InstanceState) (id : CallId) (method : Method) (bytes : List ℕ) (p : ProgressValue) →
    AreNoTurns (answer_by_progress s id method bytes p).changes
by_progress_no_turn s id method bytes waits = first_message_no_turn s id method bytes
by_progress_no_turn s id method bytes (has first) = (tt, tt)
by_progress_no_turn s id method bytes (writes write) =
    next_no_turn id (next_changes s write bytes) (next_outcome s write bytes) (next_changes_no_turn s write bytes)
by_progress_no_turn s id method bytes (watches n) = tt

message_no_turn : (s : InstanceState) (id : CallId) (bytes : List ℕ) (o : Option CallValue) →
    AreNoTurns (message_answer s id bytes o).changes
message_no_turn s id bytes None = tt
message_no_turn s id bytes (Some call) = by_progress_no_turn s id call.method bytes call.progress

head_no_turn : (id : CallId) (method : Method) (o : Option CallValue) → AreNoTurns (head_answer id method o).changes
head_no_turn id method (Some call) = tt
head_no_turn id method None = (tt, tt)

fault_no_turn : (id : CallId) (refusal : Refusal) (o : Option CallValue) → AreNoTurns (fault_answer id refusal o).changes
fault_no_turn id refusal None = tt
fault_no_turn id refusal (Some call) = go call.progress where
  go : (p : ProgressValue) → AreNoTurns (fault_by_progress id refusal p).changes
  go waits = (tt, tt)
  go (has request) = (tt, tt)
  go (writes write) = (tt, tt)
  go (watches n) = tt

execution_no_turn : (x : ExecuteChange) → IsNoTurn (execution_change x)
execution_no_turn (Executor.Uses d) = tt
execution_no_turn (Executor.Keeps results) = tt
execution_no_turn (Executor.Does operation) = tt
execution_no_turn (Executor.Pushes job) = tt

execute_no_turn : (s : InstanceState) (request : List ℕ) → AreNoTurns (request_changes Called.Execute s request)
execute_no_turn s request = on_result (λ r. AreNoTurns (execution_changes s r))
    (λ asked. mapped IsNoTurn execution_change execution_no_turn (executed s asked).changes) (λ refusal. tt) _

request_no_turn : (s : InstanceState) (method : Method) (request : List ℕ) → AreNoTurns (request_changes method s request)
request_no_turn s Called.FindMissingBlobs request = mapped IsNoTurn Text (λ t. tt) _
request_no_turn s Called.BatchUpdateBlobs request = mapped IsNoTurn Text (λ t. tt) _
request_no_turn s Called.BatchReadBlobs request = mapped IsNoTurn Text (λ t. tt) _
request_no_turn s Called.GetTree request = mapped IsNoTurn Text (λ t. tt) _
request_no_turn s Called.GetActionResult request = (tt, mapped IsNoTurn Text (λ t. tt) _)
request_no_turn s Called.UpdateActionResult request = (tt, tt)
request_no_turn s Called.Read request = mapped IsNoTurn Text (λ t. tt) _
request_no_turn s Called.Execute request = execute_no_turn s request
request_no_turn s method request = tt

last_no_turn : (id : CallId) (method : Method) (r : Result AnswerValue Refusal) → IsNoTurn (call_change id method r)
last_no_turn id method (Ok (watching n operation)) = tt
last_no_turn id method (Ok (one_message bytes)) = tt
last_no_turn id method (Ok (messages list)) = tt
last_no_turn id method (Ok (range source)) = tt
last_no_turn id method (Err refusal) = tt

end_no_turn : (s : InstanceState) (id : CallId) (o : Option CallValue) → AreNoTurns (request_end_answer s id o).changes
end_no_turn s id None = tt
end_no_turn s id (Some call) = go call.progress where
  go : (p : ProgressValue) → AreNoTurns (end_answer_by_progress s id call.method p).changes
  go waits = (tt, tt)
  go (has request) =
      let r = answer_to call.method s request in
      and_then (request_changes call.method s request) (call_change id call.method r) (request_no_turn s call.method request)
      (last_no_turn id call.method r)
  go (writes write) = (tt, tt)
  go (watches n) = tt

event_no_turn : (c : ℕ) (s : InstanceState) (event : CallEventValue) → IsCallOn c event → AreNoTurns (answer s event).changes
event_no_turn c s (head id method) on = head_no_turn id method (call_at id s.calls)
event_no_turn c s (message id bytes) on = message_no_turn s id bytes (call_at id s.calls)
event_no_turn c s (fault id refusal) on = fault_no_turn id refusal (call_at id s.calls)
event_no_turn c s (end id) on = end_no_turn s id (call_at id s.calls)
event_no_turn c s (cancel id) on = (tt, tt)
event_no_turn c s time_passes on = (tt, tt)
event_no_turn c s start_jobs on = absurd on
event_no_turn c s end_late_jobs on = absurd on
event_no_turn c s (end_job n outcome) on = absurd on

-- ---- received bytes

-- a front of the changes of an event of a call was made
made_keeps : (c : ℕ) (s t : InstanceState) (event : CallEventValue) → IsCallOn c event → MadeInPart (answer s event).changes s t →
    KeepsJobs s.jobs t.jobs
made_keeps c s t event on h =
    subst (λ (x : InstanceState). KeepsJobs s.jobs x.jobs) (sym h.so_far)
    (front_keeps h.made h.left s (subst AreNoTurns h.front (event_no_turn c s event on)))

event_keeps : (c : ℕ) (s : InstanceState) (event : CallEventValue) → IsCallOn c event → KeepsJobs s.jobs (state_after s event).jobs
event_keeps c s event on =
    let xs = (answer s event).changes in
    made_keeps c s (state_after s event) event on (record { made = xs; left = []; front = sym (append-nil xs); so_far = refl })

cut_keeps : (c : ℕ) (events : List CallEventValue) (s t : InstanceState) → AllByRecursion (IsCallOn c) events → IsCutShort events s t →
    KeepsJobs s.jobs t.jobs
cut_keeps c [] s t on same = subst (λ (x : InstanceState). KeepsJobs s.jobs x.jobs) (sym same) (same_kept s.jobs)
cut_keeps c (event ∷ events) s t on (inl part) = made_keeps c s t event on.0 part
cut_keeps c (event ∷ events) s t on (inr rest) =
    let next = state_after s event in
    then_kept s.jobs next.jobs t.jobs (event_keeps c s event on.0) (cut_keeps c events next t on.1 rest)

-- ---- an event

effect_keeps : (what : WhatValue) (l m : LoneInstance) → IsNoOutcome what → IsCutEffect what l m → KeepsJobs l.state.jobs m.state.jobs
effect_keeps (opened c) l m other is = subst (λ (k : LoneInstance). KeepsJobs l.state.jobs k.state.jobs) (sym is) (same_kept l.state.jobs)
effect_keeps (received c bytes) l m other h =
    subst (λ (k : LoneInstance). KeepsJobs l.state.jobs k.state.jobs) (sym h.gone)
    (cut_keeps c (bytes_events c bytes l) l.state h.left (bytes_on c bytes l) h.cut)
effect_keeps (took c n) l m other h = absurd h
effect_keeps (closed c) l m other h = absurd h
effect_keeps tick l m other is = subst (λ (k : LoneInstance). KeepsJobs l.state.jobs k.state.jobs) (sym is) (same_kept l.state.jobs)
effect_keeps (ended job outcome) l m other h = absurd other

pub short_keeps : (parent : List Blob) (e : LoneEvent) (l m : LoneInstance) → IsNoOutcome e.what → Short parent e l m →
    KeepsJobs l.state.jobs m.state.jobs
short_keeps parent e l m other h = effect_keeps e.what (lone_at_moment e.moment parent l) m other h

-- ---- the outcome of a job

-- changes of texts and results alone
abbrev IsStored : InstanceChange → Type 0
IsStored (Text t) = Unit {0}
IsStored (Keeps results) = Unit {0}
IsStored other = ⊥

stored_same : (made left : List InstanceChange) (s : InstanceState) → AllByRecursion IsStored (made ++ left) →
    (state_after_changes made s).jobs ≡ s.jobs
stored_same [] left s h = refl
stored_same (Text t ∷ made) left s h = stored_same made left (state_after_change (Text t) s) h.1
stored_same (Keeps results ∷ made) left s h = stored_same made left (state_after_change (Keeps results) s) h.1
stored_same (Goes id call ∷ made) left s h = absurd h.0
stored_same (Ends id ∷ made) left s h = absurd h.0
stored_same (Wrote w ∷ made) left s h = absurd h.0
stored_same (Expires ∷ made) left s h = absurd h.0
stored_same (Does operation ∷ made) left s h = absurd h.0
stored_same (Pushes job ∷ made) left s h = absurd h.0
stored_same (Settles steps ∷ made) left s h = absurd h.0

admitted_stored : {A : Type 0} (f : A → InstanceChange) → ((x : A) → IsStored (f x)) → (xs : List A) (results : List Blob) →
    AllByRecursion IsStored (map f xs ++ Keeps results ∷ [])
admitted_stored f h xs results = all_append IsStored (map f xs) (Keeps results ∷ []) (mapped IsStored f h xs) (tt, tt)

ending_stored : (s : InstanceState) (outcome : OutcomeValue) (o : Option JobValue) → AllByRecursion IsStored (ending_changes s outcome o)
ending_stored s outcome None = tt
ending_stored s outcome (Some job) = admitted_stored Text (λ t. tt) _ _

ended_without : (n : ℕ) (outcome : OutcomeValue) (l m : LoneInstance) → IsEndedInPart n outcome l m →
    m.state.jobs ≡ jobs_without n l.state.jobs
ended_without n outcome l m h =
    let all = subst (AllByRecursion IsStored) h.made.front (ending_stored l.state outcome (running_job n l.state.jobs)) in
    let same : h.left.jobs ≡ l.state.jobs = ap (λ (x : InstanceState). x.jobs) h.made.so_far
    ∙ stored_same h.made.made h.made.left l.state all in
    ap (λ (k : LoneInstance). k.state.jobs) h.gone ∙ ap (jobs_without n) same

pub short_ends : (parent : List Blob) (e : LoneEvent) (l m : LoneInstance) (n : ℕ) (outcome : OutcomeValue) → e.what ≡ ended n outcome →
    Short parent e l m → m.state.jobs ≡ jobs_without n l.state.jobs
short_ends parent e l m n outcome is h =
    let at = lone_at_moment e.moment parent l in
    ended_without n outcome at m (subst (λ (w : WhatValue). IsCutEffect w at m) is h)
