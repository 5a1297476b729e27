-- What an instance answers to an event of a call. A Write is answered as soon as its upload is
-- complete; each other method takes one message, and is answered at the end of its request. What
-- comes for a call that is not in course is dropped: it was answered before, or given up. To be
-- read from the last definitions up: `answer` has a case for each event. A call is named by the
-- numbers of its connection and of its stream (`CallId`). `answer_to` is what a method answers to
-- its one message, and `request_changes` what it does to the instance (Methods.antt);
-- `first_outcome` and `next_outcome` are what the messages of a Write are answered (Writes.antt). A
-- change is `Text`, a use or an admission of a text, `Wrote`, the texts and uploads that a message
-- of a Write leaves, `Keeps`, the results that a call leaves, `Goes`, a call begins or goes on,
-- `Ends`, a call ends, `Expires`, old uploads are forgotten, `Does` and `Pushes`, an execution is
-- done or waits under a new number, or `Settles`, jobs end and start (Changes.antt). `ending`
-- (outcomes, Ending.antt) is what becomes of a job whose run gave an outcome, and
-- `start_steps`, `tick_steps` and `end_steps` (execution, Steps.antt) which jobs end and start.
use Rattle.std.specs.Prelude.{ℕ, List, [], ◌∷◌, ◌++◌, map, Option, Some, None, Result, Ok, Err}
use Rattle.digest.specs.declared.Digest.{Digest}
use Rattle.instance_view.specs.Visible.{Blob}
use Rattle.rpc.specs.declared.method.Method.{Method}
use Rattle.rpc.specs.declared.method.Method.TheVariants as Called
use Rattle.rpc.specs.declared.refusal.Refusal.{Refusal}
use Rattle.rpc.specs.declared.refusal.Refusal.TheVariants.{NoMessage, MoreThanOneMessage}
use Rattle.job_queue.specs.Jobs.{running_job}
use Rattle.execution.specs.Job.{JobValue}
use Rattle.execution.specs.Orders.{OrderValue, orders_of}
use Rattle.execution.specs.Steps.{StepValue, start_steps, tick_steps, end_steps}
use Rattle.run_calls.specs.Outcomes.{OutcomeValue}
use Rattle.outcomes.specs.Ending.{EndingValue, admissions, ending, results_with}
use Rattle.bytestream.specs.Writing as Writing
use Rattle.bytestream.specs.Writing.{WrittenValue, unfinished_reply}
use Rattle.instance_core.specs.declared.event.CallId.{CallId}
use Rattle.instance_core.specs.Calls.{ProgressValue, waits, has, writes, watches, CallValue, CallEventValue, head, message, fault, end, cancel, tick, start_jobs, end_late_jobs, end_job, call_at}
use Rattle.instance_core.specs.Replies.{AnswerValue, one_message, watching, ReplyItemValue, ReplyValue, items_of}
use Rattle.instance_core.specs.State.{InstanceState}
use Rattle.instance_core.specs.Methods.{answer_to, request_changes}
use Rattle.instance_core.specs.Writes.{first_changes, next_changes, first_outcome, next_outcome}
use Rattle.instance_core.specs.Changes.{InstanceChange, Text, Keeps, Goes, Ends, Expires, Settles, state_after_changes}
use Rattle.instance_core.specs.Watching.{replies_to_watchers}

pub record Answer : Type 0 where
  pub replies : List ReplyValue
  pub changes : List InstanceChange

-- these items are sent at once
abbrev pub reply_of_items : CallId → List ReplyItemValue → List ReplyValue
reply_of_items id items = record { call = id; items = items } ∷ []

-- the one answer to a call: a whole reply with status OK, or a refusal
abbrev pub reply_with : CallId → Result AnswerValue Refusal → List ReplyValue
reply_with id outcome = reply_of_items id (items_of outcome)

abbrev pub no_answer : Answer
no_answer = record { replies = []; changes = [] }

-- a call goes on
abbrev pub continuation_answer : CallId → CallValue → Answer
continuation_answer id call = record { replies = []; changes = Goes id call ∷ [] }

-- a call in course is answered, and ends
abbrev pub final_answer : CallId → Result AnswerValue Refusal → Answer
final_answer id outcome = record { replies = reply_with id outcome; changes = Ends id ∷ [] }

-- a call begins; one that is in course does not begin again
abbrev pub head_answer : CallId → Method → Option CallValue → Answer
head_answer id method (Some call) = no_answer
head_answer id method None =
    continuation_answer id (record { method = method; progress = waits })

-- ---- a Write

-- a call whose message is answered goes on or ends after these changes
abbrev pub first_write_answer : CallId → Method → List InstanceChange →
    Result WrittenValue Refusal → Answer
first_write_answer id method changes (Ok (Writing.Goes write)) = record {
  replies = [];
  changes = changes ++ Goes id (record { method = method; progress = writes write }) ∷ [];
}
first_write_answer id method changes (Ok (Writing.Answered reply)) =
    record { replies = reply_with id (Ok (one_message reply)); changes = changes ++ Ends id ∷ [] }
first_write_answer id method changes (Err refusal) =
    record { replies = reply_with id (Err refusal); changes = changes ++ Ends id ∷ [] }

abbrev pub next_write_answer : CallId → List InstanceChange → Result (Option (List ℕ)) Refusal →
    Answer
next_write_answer id changes (Ok None) = record { replies = []; changes = changes }
next_write_answer id changes (Ok (Some reply)) =
    record { replies = reply_with id (Ok (one_message reply)); changes = changes ++ Ends id ∷ [] }
next_write_answer id changes (Err refusal) =
    record { replies = reply_with id (Err refusal); changes = changes ++ Ends id ∷ [] }

-- ---- messages

-- the first message of a Write is carried out, that of another method is kept
abbrev pub first_message_answer : InstanceState → CallId → Method → List ℕ → Answer
first_message_answer s id Called.Write bytes =
    first_write_answer id Called.Write (first_changes s bytes) (first_outcome s bytes)
first_message_answer s id method bytes =
    continuation_answer id (record { method = method; progress = has bytes })

-- a later message of a Write is carried out too, and a second one to another method refused at once
abbrev pub answer_by_progress : InstanceState → CallId → Method → List ℕ → ProgressValue → Answer
answer_by_progress s id method bytes waits = first_message_answer s id method bytes
answer_by_progress s id method bytes (has first) = final_answer id (Err MoreThanOneMessage)
answer_by_progress s id method bytes (writes write) =
    next_write_answer id (next_changes s write bytes) (next_outcome s write bytes)
answer_by_progress s id method bytes (watches n) = no_answer

abbrev pub message_answer : InstanceState → CallId → List ℕ → Option CallValue → Answer
message_answer s id bytes None = no_answer
message_answer s id bytes (Some call) = answer_by_progress s id call.method bytes call.progress

-- a call that watches a job was answered, and goes on
abbrev pub fault_by_progress : CallId → Refusal → ProgressValue → Answer
fault_by_progress id refusal waits = final_answer id (Err refusal)
fault_by_progress id refusal (has first) = final_answer id (Err refusal)
fault_by_progress id refusal (writes write) = final_answer id (Err refusal)
fault_by_progress id refusal (watches n) = no_answer

abbrev pub fault_answer : CallId → Refusal → Option CallValue → Answer
fault_answer id refusal None = no_answer
fault_answer id refusal (Some call) = fault_by_progress id refusal call.progress

-- ---- ends of requests

-- a call that is answered ends, or watches a job from then on
abbrev pub call_change : CallId → Method → Result AnswerValue Refusal → InstanceChange
call_change id method (Ok (watching n operation)) =
    Goes id (record { method = method; progress = watches n })
call_change id method outcome = Ends id

-- the method's own answer and changes
abbrev pub method_answer : InstanceState → CallId → Method → List ℕ → Answer
method_answer s id method request = record {
  replies = reply_with id (answer_to method s request);
  changes =
      request_changes method s request ++ call_change id method (answer_to method s request) ∷ [];
}

-- a Write that is not complete is answered with what is there of its upload
abbrev pub end_answer_by_progress : InstanceState → CallId → Method → ProgressValue → Answer
end_answer_by_progress s id method waits = final_answer id (Err NoMessage)
end_answer_by_progress s id method (has request) = method_answer s id method request
end_answer_by_progress s id method (writes write) =
    final_answer id (Ok (one_message (unfinished_reply write.key s.uploads)))
end_answer_by_progress s id method (watches n) = no_answer

abbrev pub request_end_answer : InstanceState → CallId → Option CallValue → Answer
request_end_answer s id None = no_answer
request_end_answer s id (Some call) = end_answer_by_progress s id call.method call.progress

-- ---- jobs

-- what becomes of a job whose run gave this outcome
abbrev pub ending_at : InstanceState → OutcomeValue → JobValue → EndingValue
ending_at s outcome job = ending s.quota s.visible job outcome

-- blobs are admitted, and the result of an action is stored
abbrev pub changes_kept : InstanceState → Digest → List Blob → Option (List ℕ) →
    List InstanceChange
changes_kept s action blobs stored =
    map Text (admissions blobs) ++ Keeps (results_with s.limits action stored s.results) ∷ []

-- those of a job that ends so
abbrev pub ending_changes : InstanceState → OutcomeValue → Option JobValue → List InstanceChange
ending_changes s outcome None = []
ending_changes s outcome (Some job) =
    changes_kept s job.action (ending_at s outcome job).blobs (ending_at s outcome job).stored

abbrev pub ending_steps : InstanceState → ℕ → OutcomeValue → Option JobValue → List StepValue
ending_steps s n outcome None = []
ending_steps s n outcome (Some job) =
    end_steps s.slots s.moment n (ending_at s outcome job).end_is s.jobs

-- what happens to jobs at an event
abbrev pub steps_at : InstanceState → CallEventValue → List StepValue
steps_at s start_jobs = start_steps s.slots s.moment s.jobs
steps_at s end_late_jobs = tick_steps s.slots s.moment s.jobs
steps_at s (end_job n outcome) = ending_steps s n outcome (running_job n s.jobs)
steps_at s event = []

-- these changes, and then all that happens to jobs as one; those who watch them are told
abbrev pub turn_answer : InstanceState → List InstanceChange → List StepValue → Answer
turn_answer s changes steps = record {
  replies = replies_to_watchers s.calls steps;
  changes = changes ++ Settles steps ∷ [];
}

-- what is ordered of whoever runs jobs
abbrev pub orders_at : InstanceState → CallEventValue → List OrderValue
orders_at s event = orders_of (steps_at s event) s.jobs

-- ---- all events

-- no call that is in course goes without its end
abbrev pub answer : InstanceState → CallEventValue → Answer
answer s (head id method) = head_answer id method (call_at id s.calls)
answer s (message id bytes) = message_answer s id bytes (call_at id s.calls)
answer s (fault id refusal) = fault_answer id refusal (call_at id s.calls)
answer s (end id) = request_end_answer s id (call_at id s.calls)
answer s (cancel id) = record { replies = []; changes = Ends id ∷ [] }
answer s tick = record { replies = []; changes = Expires ∷ [] }
answer s start_jobs = turn_answer s [] (steps_at s start_jobs)
answer s end_late_jobs = turn_answer s [] (steps_at s end_late_jobs)
answer s (end_job n outcome) =
    turn_answer s (ending_changes s outcome (running_job n s.jobs)) (steps_at s (end_job n outcome))

-- the instance after an event
abbrev pub state_after : InstanceState → CallEventValue → InstanceState
state_after s event = state_after_changes (answer s event).changes s
