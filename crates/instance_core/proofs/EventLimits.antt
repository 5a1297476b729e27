-- An event of a call, and what happens to jobs, keep the limits of an instance, and store only what
-- is named.
use Rattle.std.proofs.Common.{◌≡◌, ◌≤◌, ◌<◌, ◌+◌, ℕ, Bool, true, false, cond, List, [], ◌∷◌, ◌++◌, map, length, Option, Some, None, Result, Ok, Err, refl, sym, subst, arith}
use Rattle.std.specs.Prelude.{nat_lt}
use Rattle.std.specs.List.{AllByRecursion}
use Rattle.std.specs.Map.{keys_of, lookup, remove_entry}
use Rattle.std.proofs.lemmas.List.{append-nil}
use Rattle.rpc.specs.declared.method.Method.{Method}
use Rattle.rpc.specs.declared.method.Method.TheVariants as Called
use Rattle.rpc.specs.declared.refusal.Refusal.{Refusal}
use Rattle.digest.specs.declared.Digest.{Digest}
use Rattle.digest.specs.Naming.{same_digest}
use Rattle.instance_view.specs.Visible.{Blob}
use Rattle.action_cache.specs.Results.{front_within}
use Rattle.tree_calls.specs.Complete.{LimitsValue, AreResultsWithin}
use Rattle.tree_calls.proofs.Short.{front_is_within, get_stays_within, update_stays_within}
use Rattle.job_queue.specs.Jobs.{same_number, running_job}
use Rattle.job_queue.specs.declared.queue.TheConstants.{LAST_NUMBER}
use Rattle.job_queue.proofs.Orders.{found-among}
use Rattle.execution_messages.specs.Progress.{completed_text}
use Rattle.execution.specs.Job.{JobValue}
use Rattle.execution.specs.Execute as Executor
use Rattle.execution.specs.Execute.{ExecuteChange, Uses, Does, Pushes}
use Rattle.execution.specs.Orders.{told}
use Rattle.execution.specs.Steps.{StepValue, start_steps, tick_steps, end_steps}
use Rattle.run_calls.specs.Outcomes.{OutcomeValue}
use Rattle.execution.specs.Asking.{ExecuteAskedValue, execute_asked}
use Rattle.outcomes.specs.Ending.{admissions, results_with}
use Rattle.instance_core.specs.declared.event.CallId.{CallId}
use Rattle.instance_core.specs.Calls.{ProgressValue, waits, has, writes, watches, CallValue, CallEventValue, head, message, fault, end, cancel, tick, start_jobs, end_late_jobs, end_job, call_at, IsShortEvent, IsNarrowOutcome}
use Rattle.instance_core.specs.Jobs.{IsWholeJob}
use Rattle.instance_core.specs.State.{seen, InstanceState, IsInstanceWithin}
use Rattle.instance_core.specs.Methods.{answer_to, executed, execution_change, execution_changes}
use Rattle.instance_core.specs.Changes.{InstanceChange, Text, Keeps, Settles, state_after_change, state_after_changes, MadeInPart}
use Rattle.instance_core.specs.Writes.{write_state}
use Rattle.instance_core.specs.Answer.{answer, call_change, state_after, end_answer_by_progress, request_end_answer, ending_at, ending_changes, ending_steps}
use Rattle.instance_core.specs.Named.{StoresNamed}
use Rattle.instance_core.proofs.NamedTexts.{all_append}
use Rattle.instance_core.proofs.WriteLimits.{IsWithin, piece_within, whole_within}
use Rattle.instance_core.proofs.WriteAdds.{piece_adds, whole_adds}
use Rattle.instance_core.proofs.JobLimits.{start_within, tick_within, end_within, told_jobs, runs_of, found_whole}
use Rattle.instance_core.proofs.ChangeLimits.{KeepsLimits, change_keeps, jobs_of, settles_keeps, FrontsKeep, front_within as front_is, fronts_last, fronts_keep, then_settle}
use Rattle.instance_core.proofs.ChangesHeld.{Allows, AllAre, ExecutesHold, EndsHold, HoldsBeside, texts_hold, call_holds, request_holds, answer_holds, first_by, next_by}
use Rattle.instance_core.proofs.ExecuteLimits.{executed_keeps}
use Rattle.instance_core.proofs.Outputs.{ending_stores, ending_short}
use Rattle.instance_core.proofs.OperationSizes.{IsShort, tick_short, start_short, end_short}

-- ---- the limits

limits_allow : (s : InstanceState) → IsInstanceWithin s → Allows s (KeepsLimits s.limits s.quota)
limits_allow s w =
    let here : IsWithin s.limits.blobs s.quota (write_state s) = record { texts = w.texts; uploads = w.uploads } in
    record {
      texts = λ c named. named;
      begun = λ id method. tt;
      written = λ id method write below. below;
      ended = λ id. tt;
      expired = tt;
      moved = λ message. get_stays_within s.limits s.name (seen s) s.results message w.results;
      sent = λ message. update_stays_within s.limits s.name s.results message w.results;
      first = λ bytes. first_by s (KeepsLimits s.limits s.quota) (λ d. tt)
          (λ part. (piece_within true s part here, whole_within true s part w.limits.some_blobs here)) bytes;
      next = λ write bytes. next_by s (KeepsLimits s.limits s.quota)
          (λ part. (piece_within false s part here, whole_within false s part w.limits.some_blobs here)) write bytes;
    }

-- a call ends, or watches a job, in any state within the limits
call_keeps : (s : InstanceState) (id : CallId) (method : Method) (request : List ℕ) (t : InstanceState) → IsInstanceWithin t →
    IsInstanceWithin (state_after_change (call_change id method (answer_to method s request)) t)
call_keeps s id method request t wt = change_keeps (call_change id method (answer_to method s request)) t
    (call_holds (KeepsLimits t.limits t.quota) id method (answer_to method s request) (λ n. tt) tt) wt

-- the end of a request
request_fronts : (s : InstanceState) (id : CallId) (method : Method) (request : List ℕ) → IsInstanceWithin s →
    FrontsKeep s (end_answer_by_progress s id method (has request)).changes
request_fronts s id Called.Execute request w =
    fronts_last s (execution_changes s (execute_asked s.name request)) (call_change id Called.Execute (answer_to Called.Execute s request))
    (call_keeps s id Called.Execute request) (executed_keeps s request w)
request_fronts s id method request w =
    fronts_keep s (end_answer_by_progress s id method (has request)).changes
    (request_holds s (KeepsLimits s.limits s.quota) (limits_allow s w) id method (has request)
    (tt, call_holds (KeepsLimits s.limits s.quota) id method (answer_to method s request) (λ n. tt) tt)) w

progress_fronts : (s : InstanceState) (id : CallId) (method : Method) (p : ProgressValue) → IsInstanceWithin s →
    FrontsKeep s (end_answer_by_progress s id method p).changes
progress_fronts s id method (has request) w = request_fronts s id method request w
progress_fronts s id method waits w = fronts_keep s (end_answer_by_progress s id method waits).changes
    (request_holds s (KeepsLimits s.limits s.quota) (limits_allow s w) id method waits tt) w
progress_fronts s id method (writes write) w =
    fronts_keep s (end_answer_by_progress s id method (writes write)).changes
    (request_holds s (KeepsLimits s.limits s.quota) (limits_allow s w) id method (writes write) tt) w
progress_fronts s id method (watches n) w = w

end_fronts : (s : InstanceState) (id : CallId) (o : Option CallValue) → IsInstanceWithin s →
    FrontsKeep s (request_end_answer s id o).changes
end_fronts s id None w = w
end_fronts s id (Some call) w = progress_fronts s id call.method call.progress w

-- ---- the end of a job

pub results_keep : (limits : LimitsValue) (action : Digest) (stored : Option (List ℕ)) (results : List Blob) →
    AreResultsWithin limits results → AreResultsWithin limits (results_with limits action stored results)
results_keep limits action None results h = h
results_keep limits action (Some text) results h = go (nat_lt limits.result_bytes (length text)) where
  go : (b : Bool) → AreResultsWithin limits (cond b results
      (front_within limits.results limits.result_bytes ((action, text) ∷ remove_entry (same_digest action) results)))
  go true = h
  go false = front_is_within limits ((action, text) ∷ remove_entry (same_digest action) results)

-- what a run leaves
ending_keeps : (s : InstanceState) (outcome : OutcomeValue) (o : Option JobValue) → IsInstanceWithin s →
    AllByRecursion (KeepsLimits s.limits s.quota) (ending_changes s outcome o)
ending_keeps s outcome None w = tt
ending_keeps s outcome (Some job) w =
    all_append (KeepsLimits s.limits s.quota) (map Text (admissions (ending_at s outcome job).blobs))
    (Keeps (results_with s.limits job.action (ending_at s outcome job).stored s.results) ∷ [])
    (texts_hold s (KeepsLimits s.limits s.quota) (limits_allow s w) (admissions (ending_at s outcome job).blobs)
    (ending_stores s.quota s.visible job outcome))
    (results_keep s.limits job.action (ending_at s outcome job).stored s.results w.results, tt)

pub ending_front_keeps : (s t : InstanceState) (outcome : OutcomeValue) (o : Option JobValue) → IsInstanceWithin s →
    MadeInPart (ending_changes s outcome o) s t → IsInstanceWithin t
ending_front_keeps s t outcome o w part =
    subst IsInstanceWithin (sym part.so_far)
    (front_is s part.made part.left (subst (λ (cs : List InstanceChange). FrontsKeep s cs) part.front
    (fronts_keep s (ending_changes s outcome o) (ending_keeps s outcome o w) w)))

pub ending_after_keeps : (s : InstanceState) (outcome : OutcomeValue) (o : Option JobValue) → IsInstanceWithin s →
    IsInstanceWithin (state_after_changes (ending_changes s outcome o) s)
ending_after_keeps s outcome o w =
    let changes : List InstanceChange = ending_changes s outcome o in
    front_is s changes [] (subst (λ (cs : List InstanceChange). FrontsKeep s cs) (sym (append-nil changes))
    (fronts_keep s changes (ending_keeps s outcome o w) w))

no_more : (n next most : ℕ) → n < next → next ≤ most → n ≤ most
no_more n next most below few = omega arith

-- what is told of the end of a job that runs is short
end_told : (s : InstanceState) (n : ℕ) (outcome : OutcomeValue) (job : JobValue) → IsNarrowOutcome outcome →
    running_job n s.jobs ≡ Some job → IsInstanceWithin s → IsShort (completed_text n job.action (ending_at s outcome job).end_is)
end_told s n outcome job narrow is w =
    let runs = runs_of n job (lookup (same_number n) s.jobs.running) is in
    let whole : IsWholeJob job = subst IsWholeJob runs.2 (found_whole n runs.0 s.jobs.running runs.1 w.whole.running) in
    let below : n < s.jobs.next = found-among (λ m. m < s.jobs.next) n runs.0 s.jobs.running (keys_of s.jobs.waiting) runs.1 w.jobs.given in
    ending_short s.limits.blobs s.quota s.visible n job outcome w.quota w.texts
    (no_more n s.jobs.next (LAST_NUMBER + 1) below w.jobs.few_numbers) (record { hash = whole.hash; size = whole.size }) narrow

pub steps_short : (s : InstanceState) (n : ℕ) (outcome : OutcomeValue) (job : JobValue) → IsNarrowOutcome outcome →
    running_job n s.jobs ≡ Some job → IsInstanceWithin s →
    AllByRecursion (λ (step : StepValue). IsShort (told step).operation)
    (end_steps s.slots s.moment n (ending_at s outcome job).end_is s.jobs)
steps_short s n outcome job narrow is w =
    end_short s.slots s.moment n (ending_at s outcome job).end_is s.jobs (told_jobs s.slots s.jobs (jobs_of s w))
    (rw is (end_told s n outcome job narrow is w))

end_job_fronts : (s : InstanceState) (n : ℕ) (outcome : OutcomeValue) (o : Option JobValue) → running_job n s.jobs ≡ o →
    IsNarrowOutcome outcome → IsInstanceWithin s → FrontsKeep s (ending_changes s outcome o ++ Settles (ending_steps s n outcome o) ∷ [])
end_job_fronts s n outcome None is narrow w = (w, settles_keeps [] s (jobs_of s w) w)
end_job_fronts s n outcome (Some job) is narrow w =
    let steps : List StepValue = end_steps s.slots s.moment n (ending_at s outcome job).end_is s.jobs in
    then_settle s (ending_changes s outcome (Some job)) steps (ending_keeps s outcome (Some job) w)
    (end_within s.slots s.moment n (ending_at s outcome job).end_is s.jobs w.slots (steps_short s n outcome job narrow is w) (jobs_of s w))
    w

-- ---- all events

event_fronts : (s : InstanceState) (event : CallEventValue) → IsShortEvent event → IsInstanceWithin s →
    FrontsKeep s (answer s event).changes
event_fronts s (head id method) short w = fronts_keep s (answer s (head id method)).changes
    (answer_holds s (KeepsLimits s.limits s.quota) (limits_allow s w) (head id method) tt) w
event_fronts s (message id bytes) short w = fronts_keep s (answer s (message id bytes)).changes
    (answer_holds s (KeepsLimits s.limits s.quota) (limits_allow s w) (message id bytes) (λ method other. (other, short))) w
event_fronts s (fault id refusal) short w = fronts_keep s (answer s (fault id refusal)).changes
    (answer_holds s (KeepsLimits s.limits s.quota) (limits_allow s w) (fault id refusal) tt) w
event_fronts s (end id) short w = end_fronts s id (call_at id s.calls) w
event_fronts s (cancel id) short w = fronts_keep s (answer s (cancel id)).changes
    (answer_holds s (KeepsLimits s.limits s.quota) (limits_allow s w) (cancel id) tt) w
event_fronts s tick short w = fronts_keep s (answer s tick).changes
    (answer_holds s (KeepsLimits s.limits s.quota) (limits_allow s w) tick tt) w
event_fronts s start_jobs short w =
    then_settle s [] (start_steps s.slots s.moment s.jobs) tt
    (start_within s.slots s.moment s.jobs w.slots (start_short s.slots s.moment s.jobs (told_jobs s.slots s.jobs (jobs_of s w)))
    (jobs_of s w)) w
event_fronts s end_late_jobs short w =
    then_settle s [] (tick_steps s.slots s.moment s.jobs) tt
    (tick_within s.slots s.moment s.jobs w.slots (tick_short s.slots s.moment s.jobs (told_jobs s.slots s.jobs (jobs_of s w)))
    (jobs_of s w)) w
event_fronts s (end_job n outcome) short w = end_job_fronts s n outcome (running_job n s.jobs) refl short w

-- where any front of an event's changes was made
pub front_keeps : (s t : InstanceState) (event : CallEventValue) → IsShortEvent event → IsInstanceWithin s →
    MadeInPart (answer s event).changes s t → IsInstanceWithin t
front_keeps s t event short w part =
    subst IsInstanceWithin (sym part.so_far)
    (front_is s part.made part.left (subst (λ (cs : List InstanceChange). FrontsKeep s cs) part.front (event_fronts s event short w)))

pub after_keeps : (s : InstanceState) (event : CallEventValue) → IsShortEvent event → IsInstanceWithin s →
    IsInstanceWithin (state_after s event)
after_keeps s event short w =
    let changes : List InstanceChange = (answer s event).changes in
    front_is s changes [] (subst (λ (cs : List InstanceChange). FrontsKeep s cs) (sym (append-nil changes)) (event_fronts s event short w))

-- ---- what is stored

names_allow : (s : InstanceState) → Allows s (StoresNamed s.visible)
names_allow s = record {
  texts = λ c named. named;
  begun = λ id method. tt;
  written = λ id method write below. tt;
  ended = λ id. tt;
  expired = tt;
  moved = λ message. tt;
  sent = λ message. tt;
  first = λ bytes. first_by s (StoresNamed s.visible) (λ d. tt) (λ part. (piece_adds true s part, whole_adds true s part)) bytes;
  next = λ write bytes. next_by s (StoresNamed s.visible) (λ part. (piece_adds false s part, whole_adds false s part)) write bytes;
}

-- a call of Execute stores nothing
execution_stores : (visible : List Blob) (s : InstanceState) (changes : List ExecuteChange) →
    AllAre (StoresNamed visible) (map execution_change changes)
execution_stores visible s [] = tt
execution_stores visible s (Uses d ∷ changes) = (tt, execution_stores visible s changes)
execution_stores visible s (Executor.Keeps results ∷ changes) = (tt, execution_stores visible s changes)
execution_stores visible s (Does operation ∷ changes) = (tt, execution_stores visible s changes)
execution_stores visible s (Pushes job ∷ changes) = (tt, execution_stores visible s changes)

executed_stores : (s : InstanceState) (r : Result ExecuteAskedValue Refusal) → AllAre (StoresNamed s.visible) (execution_changes s r)
executed_stores s (Ok asked) = execution_stores s.visible s (executed s asked).changes
executed_stores s (Err refusal) = tt

method_stores : (s : InstanceState) (method : Method) (request : List ℕ) → ExecutesHold (StoresNamed s.visible) s method request
method_stores s Called.Execute request = executed_stores s (execute_asked s.name request)
method_stores s method request = tt

call_stores : (s : InstanceState) (id : CallId) (method : Method) (p : ProgressValue) → EndsHold (StoresNamed s.visible) s id method p
call_stores s id method (has request) = (
  method_stores s method request,
  call_holds (StoresNamed s.visible) id method
      (answer_to method s request) (λ n. tt) tt,
)
call_stores s id method waits = tt
call_stores s id method (writes write) = tt
call_stores s id method (watches n) = tt

-- what a run leaves is stored under the digests that name it
end_stores : (s : InstanceState) (outcome : OutcomeValue) (o : Option JobValue) (steps : List StepValue) →
    AllAre (StoresNamed s.visible) (ending_changes s outcome o ++ Settles steps ∷ [])
end_stores s outcome None steps = (tt, tt)
end_stores s outcome (Some job) steps =
    all_append (StoresNamed s.visible) (ending_changes s outcome (Some job)) (Settles steps ∷ [])
    (all_append (StoresNamed s.visible) (map Text (admissions (ending_at s outcome job).blobs))
    (Keeps (results_with s.limits job.action (ending_at s outcome job).stored s.results) ∷ [])
    (texts_hold s (StoresNamed s.visible) (names_allow s) (admissions (ending_at s outcome job).blobs)
    (ending_stores s.quota s.visible job outcome)) (tt, tt))
    (tt, tt)

stores_beside : (s : InstanceState) (event : CallEventValue) → HoldsBeside (StoresNamed s.visible) s event
stores_beside s (message id bytes) = λ method other. tt
stores_beside s (head id method) = tt
stores_beside s (fault id refusal) = tt
stores_beside s (end id) = λ call. call_stores s id call.method call.progress
stores_beside s (cancel id) = tt
stores_beside s tick = tt
stores_beside s start_jobs = (tt, tt)
stores_beside s end_late_jobs = (tt, tt)
stores_beside s (end_job n outcome) = end_stores s outcome (running_job n s.jobs) (ending_steps s n outcome (running_job n s.jobs))

pub answer_stores : (s : InstanceState) (event : CallEventValue) → AllByRecursion (StoresNamed s.visible) (answer s event).changes
answer_stores s event = answer_holds s (StoresNamed s.visible) (names_allow s) event (stores_beside s event)
