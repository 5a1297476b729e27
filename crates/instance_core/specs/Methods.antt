-- What each method but Write answers to the one message of its request, and what it does to the
-- instance: `answer_to` and `request_changes` have a case for each.
use Rattle.std.specs.Prelude.{ℕ, List, [], ◌∷◌, map, Result, Ok, Err}
use Rattle.reapi_messages.specs.Results.{◌>>=◌}
use Rattle.rpc.specs.declared.method.Method.{Method}
use Rattle.rpc.specs.declared.method.Method.TheVariants.{FindMissingBlobs, BatchUpdateBlobs, BatchReadBlobs, GetTree, GetActionResult, UpdateActionResult, Execute, WaitExecution, GetCapabilities, Read, QueryWriteStatus}
use Rattle.rpc.specs.declared.refusal.Refusal.{Refusal}
use Rattle.rpc.specs.declared.refusal.Refusal.TheVariants.{UnknownMethod}
use Rattle.cas_service.specs.Changes as Texts
use Rattle.cas_service.specs.FindMissing.{find_missing_reply, find_missing_changes}
use Rattle.cas_service.specs.BatchUpdate.{batch_update_reply, batch_update_changes}
use Rattle.cas_service.specs.BatchRead.{batch_read_reply, batch_read_changes}
use Rattle.bytestream.specs.declared.reading.ReadAsked.{ReadAsked}
use Rattle.bytestream.specs.Reading.{read_asked, read_answer}
use Rattle.bytestream.specs.Querying.{query_reply}
use Rattle.tree_calls.specs.GetTree.{get_tree_replies, get_tree_changes}
use Rattle.execution.specs.Execute as Executor
use Rattle.execution.specs.Execute.{ExecutionState, ExecuteAnswer, ExecuteChange, ExecuteDone, done, queued, execute}
use Rattle.execution.specs.Waiting as Waiting
use Rattle.execution.specs.Waiting.{WaitAnswer, has_told, wait}
use Rattle.execution.specs.Asking.{ExecuteAskedValue, execute_asked, name_asked}
use Rattle.tree_calls.specs.Results.{get_action_result_reply, get_action_result_changes, after_get, update_action_result_reply, after_update}
use Rattle.instance_core.specs.Changes.{InstanceChange, Text, Keeps, Does, Pushes}
use Rattle.instance_core.specs.Replies.{AnswerValue, one_message, messages, range, watching, answering}
use Rattle.instance_core.specs.State.{InstanceState, seen}
use Rattle.instance_core.specs.Capabilities.{get_capabilities_reply}

-- ---- executions

abbrev pub execution_state : InstanceState → ExecutionState
execution_state s =
    record { visible = s.visible; parent = s.parent; results = s.results; jobs = s.jobs }

abbrev pub executed : InstanceState → ExecuteAskedValue → ExecuteDone
executed s asked = execute s.slots (execution_state s) asked.skips_lookup asked.action

abbrev pub execute_answered : ExecuteAnswer → AnswerValue
execute_answered (done operation) = one_message operation
execute_answered (queued n operation) = watching n operation

abbrev pub wait_answered : WaitAnswer → AnswerValue
wait_answered (has_told operation) = one_message operation
wait_answered (Waiting.watches n operation) = watching n operation

abbrev pub execution_change : ExecuteChange → InstanceChange
execution_change (Executor.Uses d) = Text (Texts.Use d)
execution_change (Executor.Keeps results) = Keeps results
execution_change (Executor.Does operation) = Does operation
execution_change (Executor.Pushes job) = Pushes job

-- a call whose request is not taken changes nothing
abbrev pub execution_changes : InstanceState → Result ExecuteAskedValue Refusal →
    List InstanceChange
execution_changes s (Ok asked) = map execution_change (executed s asked).changes
execution_changes s (Err refusal) = []

-- ---- all methods

-- what a method answers, or its refusal; no request of a Write is kept to its end
abbrev pub answer_to : Method → InstanceState → List ℕ → Result AnswerValue Refusal
answer_to FindMissingBlobs s message =
    answering one_message (find_missing_reply s.name (seen s) message)
answer_to BatchUpdateBlobs s message =
    answering one_message (batch_update_reply s.name s.quota message)
answer_to BatchReadBlobs s message =
    answering one_message (batch_read_reply s.name (seen s) message)
answer_to GetTree s message = answering messages (get_tree_replies s.name (seen s) message)
answer_to GetActionResult s message =
    answering one_message (get_action_result_reply s.name (seen s) s.results message)
answer_to UpdateActionResult s message =
    answering one_message (update_action_result_reply s.name message)
answer_to GetCapabilities s message =
    answering one_message (get_capabilities_reply s.name s.slots message)
answer_to Read s message = answering range (read_answer s.name (seen s) message)
answer_to QueryWriteStatus s message =
    answering one_message (query_reply s.name s.visible s.uploads message)
answer_to Execute s message =
    execute_asked s.name message >>= λ asked. answering execute_answered (executed s asked).answer
answer_to WaitExecution s message =
    name_asked message >>= λ name. answering wait_answered (wait name s.jobs)
answer_to _ s message = Err UnknownMethod

-- a Read uses the blob that it asks for
abbrev pub use_asked : Result ReadAsked Refusal → List Texts.TextChange
use_asked (Ok asked) = Texts.Use asked.digest ∷ []
use_asked (Err refusal) = []

-- all that a request does but end its call, in this order
abbrev pub request_changes : Method → InstanceState → List ℕ → List InstanceChange
request_changes FindMissingBlobs s message = map Text (find_missing_changes s.name message)
request_changes BatchUpdateBlobs s message =
    map Text (batch_update_changes s.name s.quota message)
request_changes BatchReadBlobs s message = map Text (batch_read_changes s.name message)
request_changes GetTree s message = map Text (get_tree_changes s.name (seen s) message)
request_changes GetActionResult s message =
    Keeps (after_get s.name (seen s) s.results message)
    ∷ map Text (get_action_result_changes s.name (seen s) s.results message)
request_changes UpdateActionResult s message =
    Keeps (after_update s.name s.limits s.results message) ∷ []
request_changes Read s message = map Text (use_asked (read_asked s.name message))
request_changes Execute s message = execution_changes s (execute_asked s.name message)
request_changes _ s message = []
