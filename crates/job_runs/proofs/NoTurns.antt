-- What an event of a call changes of an instance: no job starts by it, and none ends.
use Rattle.std.proofs.Common.{ℕ, Bool, true, false, cond, List, [], ◌∷◌, ◌++◌, map, Option, Some, None, Result, Ok, Err}
use Rattle.std.specs.List.{AllByRecursion}
use Rattle.execution.specs.Job.{JobValue}
use Rattle.execution.specs.Execute as Executor
use Rattle.execution.specs.Execute.{ExecuteChange}
use Rattle.run_calls.specs.Outcomes.{OutcomeValue}
use Rattle.instance_core.specs.Method.{Method}
use Rattle.instance_core.specs.Method.TheVariants as Called
use Rattle.instance_core.specs.Refusal.{Refusal}
use Rattle.instance_core.specs.Writing as Writing
use Rattle.instance_core.specs.Writing.{OpenWriteValue, PartValue, WrittenValue}
use Rattle.instance_core.specs.declared.event.CallId.{CallId}
use Rattle.instance_core.specs.Calls.{CallValue, ProgressValue, waits, has, writes, watches, CallEventValue, head, message, fault, end, cancel, tick as time_passes, start_jobs, end_late_jobs, end_job, call_at}
use Rattle.instance_core.specs.Replies.{AnswerValue, one_message, messages, range, watching}
use Rattle.instance_core.specs.State.{InstanceState}
use Rattle.instance_core.specs.Visible.{Blob}
use Rattle.instance_core.specs.Changes.{InstanceChange, Text, Goes, Ends, Wrote, Keeps, Expires, Does, Pushes, Settles}
use Rattle.instance_core.specs.Methods.{answer_to, request_changes, execution_change, execution_changes, executed}
use Rattle.instance_core.specs.Writes.{part_changes, first_part_changes, changes_asked, first_changes, next_changes, first_outcome, next_outcome}
use Rattle.instance_core.specs.Answer.{answer, head_answer, first_write_answer, next_write_answer, first_message_answer, answer_by_progress, message_answer, fault_by_progress, fault_answer, call_change, end_answer_by_progress, request_end_answer, ending_changes}
use Rattle.instance_core.specs.Apart.{IsCallOn}
use Rattle.job_queue.proofs.Orders.{all-append}

-- ---- changes that start no job and end none

abbrev pub IsNoTurn : InstanceChange → Type 0
IsNoTurn (Text t) = Unit {0}
IsNoTurn (Goes id call) = Unit {0}
IsNoTurn (Ends id) = Unit {0}
IsNoTurn (Wrote w) = Unit {0}
IsNoTurn (Keeps results) = Unit {0}
IsNoTurn Expires = Unit {0}
IsNoTurn (Does operation) = Unit {0}
IsNoTurn (Pushes job) = Unit {0}
IsNoTurn (Settles steps) = ⊥

abbrev pub AreNoTurns : List InstanceChange → Type 0
AreNoTurns xs = AllByRecursion IsNoTurn xs

-- ---- the changes of an event of a call

mapped : {A : Type 0} (P : InstanceChange → Type 0) (f : A → InstanceChange) → ((x : A) → P (f x)) → (xs : List A) →
    AllByRecursion P (map f xs)
mapped P f h [] = tt
mapped P f h (x ∷ xs) = (h x, mapped P f h xs)

on_result : {A E : Type 0} (P : Result A E → Type 0) → ((x : A) → P (Ok x)) → ((e : E) → P (Err e)) → (r : Result A E) → P r
on_result P f g (Ok x) = f x
on_result P f g (Err e) = g e

and_then : (xs : List InstanceChange) (x : InstanceChange) → AreNoTurns xs → IsNoTurn x → AreNoTurns (xs ++ x ∷ [])
and_then xs x h k = all-append IsNoTurn xs (x ∷ []) h (k, tt)

-- a text is used, or a part taken
use_or_part : {A : Type 0} (f : A → InstanceChange) → ((x : A) → IsNoTurn (f x)) →
    (b : Bool) (x : A) (s : InstanceState) (part : PartValue) → AreNoTurns (cond b (f x ∷ []) (part_changes true s part))
use_or_part f h true x s part = (h x, tt)
use_or_part f h false x s part = (tt, (tt, tt))

first_changes_no_turn : (s : InstanceState) (bytes : List ℕ) → AreNoTurns (first_changes s bytes)
first_changes_no_turn s bytes = on_result (λ r. AreNoTurns (changes_asked (first_part_changes s) r))
    (λ asked. use_or_part Text (λ t. tt) _ _ s asked.part) (λ refusal. tt) _

next_changes_no_turn : (s : InstanceState) (write : OpenWriteValue) (bytes : List ℕ) → AreNoTurns (next_changes s write bytes)
next_changes_no_turn s write bytes = on_result (λ r. AreNoTurns (changes_asked (part_changes false s) r)) (λ part. (tt, (tt, tt)))
    (λ refusal. tt) _

first_no_turn : (id : CallId) (method : Method) (xs : List InstanceChange) (r : Result WrittenValue Refusal) → AreNoTurns xs →
    AreNoTurns (first_write_answer id method xs r).changes
first_no_turn id method xs (Ok (Writing.Goes write)) h = and_then xs (Goes id (record { method = method; progress = writes write })) h tt
first_no_turn id method xs (Ok (Writing.Answered reply)) h = and_then xs (Ends id) h tt
first_no_turn id method xs (Err refusal) h = and_then xs (Ends id) h tt

next_no_turn : (id : CallId) (xs : List InstanceChange) (r : Result (Option (List ℕ)) Refusal) → AreNoTurns xs →
    AreNoTurns (next_write_answer id xs r).changes
next_no_turn id xs (Ok None) h = h
next_no_turn id xs (Ok (Some reply)) h = and_then xs (Ends id) h tt
next_no_turn id xs (Err refusal) h = and_then xs (Ends id) h tt

first_message_no_turn : (s : InstanceState) (id : CallId) (method : Method) (bytes : List ℕ) →
    AreNoTurns (first_message_answer s id method bytes).changes
first_message_no_turn s id Called.Write bytes =
    first_no_turn id Called.Write (first_changes s bytes) (first_outcome s bytes) (first_changes_no_turn s bytes)
first_message_no_turn s id method bytes = (tt, tt)

by_progress_no_turn : (s : InstanceState) (id : CallId) (method : Method) (bytes : List ℕ) (p : ProgressValue) →
    AreNoTurns (answer_by_progress s id method bytes p).changes
by_progress_no_turn s id method bytes waits = first_message_no_turn s id method bytes
by_progress_no_turn s id method bytes (has first) = (tt, tt)
by_progress_no_turn s id method bytes (writes write) =
    next_no_turn id (next_changes s write bytes) (next_outcome s write bytes) (next_changes_no_turn s write bytes)
by_progress_no_turn s id method bytes (watches n) = tt

message_no_turn : (s : InstanceState) (id : CallId) (bytes : List ℕ) (o : Option CallValue) →
    AreNoTurns (message_answer s id bytes o).changes
message_no_turn s id bytes None = tt
message_no_turn s id bytes (Some call) = by_progress_no_turn s id call.method bytes call.progress

head_no_turn : (id : CallId) (method : Method) (o : Option CallValue) → AreNoTurns (head_answer id method o).changes
head_no_turn id method (Some call) = tt
head_no_turn id method None = (tt, tt)

fault_no_turn : (id : CallId) (refusal : Refusal) (o : Option CallValue) → AreNoTurns (fault_answer id refusal o).changes
fault_no_turn id refusal None = tt
fault_no_turn id refusal (Some call) = go call.progress where
  go : (p : ProgressValue) → AreNoTurns (fault_by_progress id refusal p).changes
  go waits = (tt, tt)
  go (has request) = (tt, tt)
  go (writes write) = (tt, tt)
  go (watches n) = tt

execution_no_turn : (x : ExecuteChange) → IsNoTurn (execution_change x)
execution_no_turn (Executor.Uses d) = tt
execution_no_turn (Executor.Keeps results) = tt
execution_no_turn (Executor.Does operation) = tt
execution_no_turn (Executor.Pushes job) = tt

execute_no_turn : (s : InstanceState) (request : List ℕ) → AreNoTurns (request_changes Called.Execute s request)
execute_no_turn s request = on_result (λ r. AreNoTurns (execution_changes s r))
    (λ asked. mapped IsNoTurn execution_change execution_no_turn (executed s asked).changes) (λ refusal. tt) _

request_no_turn : (s : InstanceState) (method : Method) (request : List ℕ) → AreNoTurns (request_changes method s request)
request_no_turn s Called.FindMissingBlobs request = mapped IsNoTurn Text (λ t. tt) _
request_no_turn s Called.BatchUpdateBlobs request = mapped IsNoTurn Text (λ t. tt) _
request_no_turn s Called.BatchReadBlobs request = mapped IsNoTurn Text (λ t. tt) _
request_no_turn s Called.GetTree request = mapped IsNoTurn Text (λ t. tt) _
request_no_turn s Called.GetActionResult request = (tt, mapped IsNoTurn Text (λ t. tt) _)
request_no_turn s Called.UpdateActionResult request = (tt, tt)
request_no_turn s Called.Read request = mapped IsNoTurn Text (λ t. tt) _
request_no_turn s Called.Execute request = execute_no_turn s request
request_no_turn s method request = tt

last_no_turn : (id : CallId) (method : Method) (r : Result AnswerValue Refusal) → IsNoTurn (call_change id method r)
last_no_turn id method (Ok (watching n operation)) = tt
last_no_turn id method (Ok (one_message bytes)) = tt
last_no_turn id method (Ok (messages list)) = tt
last_no_turn id method (Ok (range source)) = tt
last_no_turn id method (Err refusal) = tt

end_no_turn : (s : InstanceState) (id : CallId) (o : Option CallValue) → AreNoTurns (request_end_answer s id o).changes
end_no_turn s id None = tt
end_no_turn s id (Some call) = go call.progress where
  go : (p : ProgressValue) → AreNoTurns (end_answer_by_progress s id call.method p).changes
  go waits = (tt, tt)
  go (has request) =
      let r = answer_to call.method s request in
      and_then (request_changes call.method s request) (call_change id call.method r) (request_no_turn s call.method request)
      (last_no_turn id call.method r)
  go (writes write) = (tt, tt)
  go (watches n) = tt

pub event_no_turn : (c : ℕ) (s : InstanceState) (event : CallEventValue) → IsCallOn c event → AreNoTurns (answer s event).changes
event_no_turn c s (head id method) on = head_no_turn id method (call_at id s.calls)
event_no_turn c s (message id bytes) on = message_no_turn s id bytes (call_at id s.calls)
event_no_turn c s (fault id refusal) on = fault_no_turn id refusal (call_at id s.calls)
event_no_turn c s (end id) on = end_no_turn s id (call_at id s.calls)
event_no_turn c s (cancel id) on = (tt, tt)
event_no_turn c s time_passes on = (tt, tt)
event_no_turn c s start_jobs on = absurd on
event_no_turn c s end_late_jobs on = absurd on
event_no_turn c s (end_job n outcome) on = absurd on

-- ---- the outcome of a job

-- changes of texts and results alone
abbrev pub IsStored : InstanceChange → Type 0
IsStored (Text t) = Unit {0}
IsStored (Keeps results) = Unit {0}
IsStored other = ⊥

admitted_stored : {A : Type 0} (f : A → InstanceChange) → ((x : A) → IsStored (f x)) → (xs : List A) (results : List Blob) →
    AllByRecursion IsStored (map f xs ++ Keeps results ∷ [])
admitted_stored f h xs results = all-append IsStored (map f xs) (Keeps results ∷ []) (mapped IsStored f h xs) (tt, tt)

pub ending_stored : (s : InstanceState) (outcome : OutcomeValue) (o : Option JobValue) →
    AllByRecursion IsStored (ending_changes s outcome o)
ending_stored s outcome None = tt
ending_stored s outcome (Some job) = admitted_stored Text (λ t. tt) _ _
