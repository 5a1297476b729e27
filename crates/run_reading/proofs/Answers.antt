-- A reply is to the call that the event is of, and a call that is given up gets none.
use Rattle.std.proofs.Common.{◌≡◌, ℕ, List, refl}
use Rattle.std.specs.Prelude.{Option, Some, None, Result, Ok, Err}
use Rattle.std.specs.List.{AllByRecursion}
use Rattle.instance_core.specs.Method.{Method}
use Rattle.instance_core.specs.Method.TheVariants.{Write}
use Rattle.instance_core.specs.Refusal.{Refusal}
use Rattle.instance_core.specs.Writing as Writing
use Rattle.instance_core.specs.Writing.{WrittenValue}
use Rattle.instance_core.specs.declared.event.CallId.{CallId}
use Rattle.instance_core.specs.Calls.{ProgressValue, waits, has, writes, watches, CallValue, head, message, fault, end, call_at}
use Rattle.instance_core.specs.State.{InstanceState}
use Rattle.instance_core.specs.Changes.{InstanceChange}
use Rattle.instance_core.specs.Replies.{ReplyValue}
use Rattle.instance_core.specs.Writes.{first_changes, next_changes, first_outcome, next_outcome}
use Rattle.instance_core.specs.Answer.{head_answer, first_write_answer, next_write_answer, first_message_answer, answer_by_progress, message_answer, fault_by_progress, fault_answer, end_answer_by_progress, request_end_answer, answer}

abbrev pub AreTo : CallId → List ReplyValue → Type 0
AreTo id rs = AllByRecursion (λ (r : ReplyValue). r.call ≡ id) rs

head_to : (id : CallId) (method : Method) (o : Option CallValue) → AreTo id (head_answer id method o).replies
head_to id method (Some call) = tt
head_to id method None = tt

first_to : (id : CallId) (method : Method) (changes : List InstanceChange) (r : Result WrittenValue Refusal) →
    AreTo id (first_write_answer id method changes r).replies
first_to id method changes (Ok (Writing.Goes write)) = tt
first_to id method changes (Ok (Writing.Answered reply)) = (refl, tt)
first_to id method changes (Err refusal) = (refl, tt)

next_to : (id : CallId) (changes : List InstanceChange) (r : Result (Option (List ℕ)) Refusal) →
    AreTo id (next_write_answer id changes r).replies
next_to id changes (Ok None) = tt
next_to id changes (Ok (Some reply)) = (refl, tt)
next_to id changes (Err refusal) = (refl, tt)

with_first_to : (s : InstanceState) (id : CallId) (method : Method) (bytes : List ℕ) →
    AreTo id (first_message_answer s id method bytes).replies
with_first_to s id Write bytes = first_to id Write (first_changes s bytes) (first_outcome s bytes)
with_first_to s id method bytes = tt

with_to : (s : InstanceState) (id : CallId) (method : Method) (bytes : List ℕ) (p : ProgressValue) →
    AreTo id (answer_by_progress s id method bytes p).replies
with_to s id method bytes waits = with_first_to s id method bytes
with_to s id method bytes (has first) = (refl, tt)
with_to s id method bytes (writes write) = next_to id (next_changes s write bytes) (next_outcome s write bytes)
with_to s id method bytes (watches n) = tt

message_to : (s : InstanceState) (id : CallId) (bytes : List ℕ) (o : Option CallValue) → AreTo id (message_answer s id bytes o).replies
message_to s id bytes None = tt
message_to s id bytes (Some call) = with_to s id call.method bytes call.progress

fault_to : (id : CallId) (refusal : Refusal) (o : Option CallValue) → AreTo id (fault_answer id refusal o).replies
fault_to id refusal None = tt
fault_to id refusal (Some call) = go call.progress where
  go : (p : ProgressValue) → AreTo id (fault_by_progress id refusal p).replies
  go waits = (refl, tt)
  go (has first) = (refl, tt)
  go (writes write) = (refl, tt)
  go (watches n) = tt

end_to : (s : InstanceState) (id : CallId) (o : Option CallValue) → AreTo id (request_end_answer s id o).replies
end_to s id None = tt
end_to s id (Some call) = go call.progress where
  go : (p : ProgressValue) → AreTo id (end_answer_by_progress s id call.method p).replies
  go waits = (refl, tt)
  go (has request) = (refl, tt)
  go (writes write) = (refl, tt)
  go (watches n) = tt

pub head_replies : (s : InstanceState) (id : CallId) (method : Method) → AreTo id (answer s (head id method)).replies
head_replies s id method = head_to id method (call_at id s.calls)

pub message_replies : (s : InstanceState) (id : CallId) (bytes : List ℕ) → AreTo id (answer s (message id bytes)).replies
message_replies s id bytes = message_to s id bytes (call_at id s.calls)

pub fault_replies : (s : InstanceState) (id : CallId) (refusal : Refusal) → AreTo id (answer s (fault id refusal)).replies
fault_replies s id refusal = fault_to id refusal (call_at id s.calls)

pub end_replies : (s : InstanceState) (id : CallId) → AreTo id (answer s (end id)).replies
end_replies s id = end_to s id (call_at id s.calls)
