-- An event of a call is answered to that call alone.
use Rattle.std.proofs.Common.{◌≡◌, sym, subst}
use Rattle.std.specs.Prelude.{ℕ, List, [], ◌∷◌, map, Option, Some, None, Result, Ok, Err}
use Rattle.std.specs.List.{AllByRecursion}
use Rattle.blob_pool.specs.Slots.{Slots}
use Rattle.rpc.specs.declared.method.Method.{Method}
use Rattle.rpc.specs.declared.method.Method.TheVariants as Called
use Rattle.rpc.specs.declared.refusal.Refusal.{Refusal}
use Rattle.bytestream.specs.Writing as Writing
use Rattle.bytestream.specs.Writing.{WrittenValue}
use Rattle.instance_core.specs.declared.event.CallId.{CallId}
use Rattle.instance_core.specs.declared.event.Reply.{Reply}
use Rattle.instance_core.specs.Answer.{answer, head_answer, first_write_answer, next_write_answer, first_message_answer, answer_by_progress, message_answer, fault_by_progress, fault_answer, end_answer_by_progress, request_end_answer}
use Rattle.instance_core.specs.Calls.{ProgressValue, waits, has, writes, watches, CallValue, CallEventValue, head, message, fault, end, cancel, tick as time_passes, start_jobs, end_late_jobs, end_job, call_at}
use Rattle.instance_core.specs.Changes.{InstanceChange}
use Rattle.instance_core.specs.Replies.{ReplyValue}
use Rattle.instance_core.specs.Shown.{reply_shown}
use Rattle.instance_core.specs.State.{InstanceState}
use Rattle.instance_core.specs.Writes.{first_changes, next_changes, first_outcome, next_outcome}
use Rattle.instance_core.specs.Apart.{IsCallOn, AreRepliesTo}

abbrev AreTo : ℕ → List ReplyValue → Type 0
AreTo c replies = AllByRecursion (λ (r : ReplyValue). r.call.connection ≡ c) replies

on_head : (c : ℕ) (id : CallId) (method : Method) (call : Option CallValue) → id.connection ≡ c →
    AreTo c (head_answer id method call).replies
on_head c id method (Some call) h = tt
on_head c id method None h = tt

on_first_write : (c : ℕ) (id : CallId) (method : Method) (changes : List InstanceChange) (outcome : Result WrittenValue Refusal) →
    id.connection ≡ c → AreTo c (first_write_answer id method changes outcome).replies
on_first_write c id method changes (Ok (Writing.Goes write)) h = tt
on_first_write c id method changes (Ok (Writing.Answered reply)) h = (h, tt)
on_first_write c id method changes (Err refusal) h = (h, tt)

on_next_write : (c : ℕ) (id : CallId) (changes : List InstanceChange) (outcome : Result (Option (List ℕ)) Refusal) → id.connection ≡ c →
    AreTo c (next_write_answer id changes outcome).replies
on_next_write c id changes (Ok None) h = tt
on_next_write c id changes (Ok (Some reply)) h = (h, tt)
on_next_write c id changes (Err refusal) h = (h, tt)

on_first : (c : ℕ) (s : InstanceState) (id : CallId) (method : Method) (bytes : List ℕ) → id.connection ≡ c →
    AreTo c (first_message_answer s id method bytes).replies
on_first c s id Called.Write bytes h = on_first_write c id Called.Write (first_changes s bytes) (first_outcome s bytes) h
on_first c s id _ bytes h = tt

on_progress : (c : ℕ) (s : InstanceState) (id : CallId) (method : Method) (bytes : List ℕ) (progress : ProgressValue) → id.connection ≡ c →
    AreTo c (answer_by_progress s id method bytes progress).replies
on_progress c s id method bytes waits h = on_first c s id method bytes h
on_progress c s id method bytes (has first) h = (h, tt)
on_progress c s id method bytes (writes write) h = on_next_write c id (next_changes s write bytes) (next_outcome s write bytes) h
on_progress c s id method bytes (watches n) h = tt

on_message : (c : ℕ) (s : InstanceState) (id : CallId) (bytes : List ℕ) (call : Option CallValue) → id.connection ≡ c →
    AreTo c (message_answer s id bytes call).replies
on_message c s id bytes None h = tt
on_message c s id bytes (Some call) h = on_progress c s id call.method bytes call.progress h

on_fault_by : (c : ℕ) (id : CallId) (refusal : Refusal) (progress : ProgressValue) → id.connection ≡ c →
    AreTo c (fault_by_progress id refusal progress).replies
on_fault_by c id refusal (watches n) h = tt
on_fault_by c id refusal waits h = (h, tt)
on_fault_by c id refusal (has first) h = (h, tt)
on_fault_by c id refusal (writes write) h = (h, tt)

on_fault : (c : ℕ) (id : CallId) (refusal : Refusal) (call : Option CallValue) → id.connection ≡ c →
    AreTo c (fault_answer id refusal call).replies
on_fault c id refusal None h = tt
on_fault c id refusal (Some call) h = on_fault_by c id refusal call.progress h

on_end_by : (c : ℕ) (s : InstanceState) (id : CallId) (method : Method) (progress : ProgressValue) → id.connection ≡ c →
    AreTo c (end_answer_by_progress s id method progress).replies
on_end_by c s id method waits h = (h, tt)
on_end_by c s id method (has request) h = (h, tt)
on_end_by c s id method (writes write) h = (h, tt)
on_end_by c s id method (watches n) h = tt

on_end : (c : ℕ) (s : InstanceState) (id : CallId) (call : Option CallValue) → id.connection ≡ c →
    AreTo c (request_end_answer s id call).replies
on_end c s id None h = tt
on_end c s id (Some call) h = on_end_by c s id call.method call.progress h

pub answered_to : (c : ℕ) (s : InstanceState) (event : CallEventValue) → IsCallOn c event → AreTo c (answer s event).replies
answered_to c s (head id method) h = on_head c id method (call_at id s.calls) h
answered_to c s (message id bytes) h = on_message c s id bytes (call_at id s.calls) h
answered_to c s (fault id refusal) h = on_fault c id refusal (call_at id s.calls) h
answered_to c s (end id) h = on_end c s id (call_at id s.calls) h
answered_to c s (cancel id) h = tt
answered_to c s time_passes h = tt
answered_to c s start_jobs h = absurd h
answered_to c s end_late_jobs h = absurd h
answered_to c s (end_job n outcome) h = absurd h

shown_to : (c : ℕ) (p : Slots) (rs : List Reply) → AreTo c (map (reply_shown p) rs) → AreRepliesTo c rs
shown_to c p [] h = tt
shown_to c p (r ∷ rs) h = (h.0, shown_to c p rs h.1)

-- so are the replies that are given
pub replies_to : (c : ℕ) (p : Slots) (s : InstanceState) (event : CallEventValue) (rs : List Reply) →
    map (reply_shown p) rs ≡ (answer s event).replies → IsCallOn c event → AreRepliesTo c rs
replies_to c p s event rs e h = shown_to c p rs (subst (λ (xs : List ReplyValue). AreTo c xs) (sym e) (answered_to c s event h))
