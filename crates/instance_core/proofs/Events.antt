-- Replies are short where requests are, and kept requests stay short.
use Rattle.std.proofs.Common.{◌≡◌, ℕ, ◌+◌, ◌<◌, ◌≤◌, ◌^◌, Bool, true, false, cond, List, [], ◌∷◌, ◌++◌, map, length, min, Option, Some, None, Result, Ok, Err, refl, sym, subst, eqb, arith, ltb-true}
use Rattle.std.specs.Prelude.{IfSome, IfOk, OnOk, OnErr, nat_lt}
use Rattle.std.specs.List.{AllByRecursion}
use Rattle.std.specs.declared.alloc.Global.{Global}
use Rattle.std.specs.declared.alloc.AllocError.{AllocError}
use Rattle.std.specs.declared.vec.Vec.{Vec}
use Rattle.rpc.specs.declared.method.Method.{Method}
use Rattle.rpc.specs.declared.method.Method.TheVariants.{FindMissingBlobs, BatchUpdateBlobs, BatchReadBlobs, GetTree, GetActionResult, UpdateActionResult, Execute, WaitExecution, GetCapabilities, Read, Write, QueryWriteStatus}
use Rattle.rpc.specs.declared.refusal.Refusal.{Refusal}
use Rattle.reapi_messages.proofs.Tools.{bind_ok, ok_is}
use Rattle.blob_pool.specs.Slots.{Slots}
use Rattle.instance_view.specs.Visible.{Blob, visible_text}
use Rattle.bytestream.specs.declared.reading.ReadAsked.{ReadAsked}
use Rattle.bytestream.specs.Reading.{SourceValue, read_asked, offset_check, until_of, range_asked, read_answer}
use Rattle.bytestream.specs.Writing as Writing
use Rattle.bytestream.specs.Writing.{WrittenValue}
use Rattle.instance_core.specs.declared.event.CallId.{CallId}
use Rattle.instance_core.specs.Calls.{Calls, CallValue, ProgressValue, waits, has, writes, watches, CallEventValue, head, message, fault, end, cancel, tick, start_jobs, end_late_jobs, end_job, same_call, call_at, IsShortEvent, IsShortRequest, IsProgressOf, KeepShort}
use Rattle.instance_core.specs.State.{InstanceState, IsInstanceWithin, seen}
use Rattle.instance_core.proofs.Sees.{all_named}
use Rattle.instance_view.specs.Shown.{ViewValue}
use Rattle.instance_core.specs.Slots.{InstanceSlots, state_in, state_beside, IsBeside, IsInstanceInPool}
use Rattle.instance_core.specs.Methods.{answer_to}
use Rattle.cas_service.specs.FindMissing.{find_missing_reply}
use Rattle.cas_service.specs.BatchUpdate.{batch_update_reply}
use Rattle.cas_service.specs.BatchRead.{batch_read_reply}
use Rattle.bytestream.specs.Querying.{query_reply}
use Rattle.tree_calls.specs.GetTree.{get_tree_replies}
use Rattle.tree_calls.specs.Results.{get_action_result_reply, update_action_result_reply}
use Rattle.instance_core.specs.Capabilities.{get_capabilities_reply}
use Rattle.tree_calls.proofs.Short.{get_tree_short, get_action_result_short, update_action_result_short}
use Rattle.instance_core.specs.Replies.{AnswerValue, one_message, messages, range, answering, items_of, ReplyValue, IsShortReplyItem, IsShortReply, says, gives, ends}
use Rattle.instance_core.specs.Changes.{InstanceChange, MadeInPart}
use Rattle.instance_core.proofs.EventLimits.{after_keeps, front_keeps}
use Rattle.instance_core.specs.Writes.{first_changes, next_changes, first_outcome, next_outcome}
use Rattle.instance_core.specs.Answer.{head_answer, first_write_answer, next_write_answer, first_message_answer, answer_by_progress, message_answer, fault_by_progress, fault_answer, end_answer_by_progress, request_end_answer, answer, state_after}
use Rattle.instance_core.specs.declared.event.Reply.{Reply}
use Rattle.instance_core.specs.Shown.{reply_shown}
use Rattle.instance_core.proofs.Short.{find_missing_short, batch_update_short, batch_read_short, get_capabilities_short}
use Rattle.instance_core.proofs.JobReplies.{execute_items, wait_items, execute_no_range, wait_no_range, ending_replies, start_replies, tick_replies}
use Rattle.instance_core.proofs.Told.{first_short, next_short, query_short, unfinished_short}

-- ---- replies

if_ok : (r : Result (List ℕ) Refusal) → ((reply : List ℕ) → r ≡ Ok reply → length reply < 2 ^ 32) →
    AllByRecursion IsShortReplyItem (items_of (answering one_message r))
if_ok (Ok reply) f = (tt, (f reply refl, (tt, tt)))
if_ok (Err e) f = (tt, tt)

-- ---- ranges

until_within : (limit from size : ℕ) → until_of limit from size ≤ size
until_within limit from size = go (eqb limit 0) where
  go : (b : Bool) → cond b size (min size (from + limit)) ≤ size
  go true = omega arith
  go false = omega arith

range_within : (asked : ReadAsked) (o : Option (List ℕ)) (source : SourceValue) → range_asked asked o ≡ Ok source →
    source.until ≤ length source.text
range_within asked None source h = absurd (cc)
range_within asked (Some text) source h =
    let from = bind_ok (offset_check asked.offset (length text)) _ source h in
    let e = ok_is (record { digest = asked.digest; text = text; from = from.0; until = until_of asked.limit from.0 (length text) }) source
    from.2 in
    rw (← e) (until_within asked.limit from.0 (length text))

-- what a Read gives ends within its text
pub read_within : (own : List ℕ) (visible : List Blob) (request : List ℕ) (source : SourceValue) →
    read_answer own visible request ≡ Ok source → source.until ≤ length source.text
read_within own visible request source h =
    let asked = bind_ok (read_asked own request) _ source h in
    range_within asked.0 (visible_text asked.0.digest visible) source asked.2

read_short : (r : Result SourceValue Refusal) → ((source : SourceValue) → r ≡ Ok source → source.until ≤ length source.text) →
    AllByRecursion IsShortReplyItem (items_of (answering range r))
read_short (Err refusal) f = (tt, tt)
read_short (Ok source) f = (tt, go (nat_lt source.from source.until) refl) where
  go : (b : Bool) → nat_lt source.from source.until ≡ b → AllByRecursion IsShortReplyItem (cond b (gives source ∷ []) [] ++ ends ∷ [])
  go true is = (record { some = ltb-true source.from source.until is; within = f source refl }, (tt, tt))
  go false is = (tt, tt)

-- ---- pages

said_short : (messages : List (List ℕ)) → AllByRecursion (λ message. length message < 2 ^ 32) messages →
    AllByRecursion IsShortReplyItem (map says messages ++ ends ∷ [])
said_short [] h = (tt, tt)
said_short (m ∷ ms) h = (h.0, said_short ms h.1)

messages_short : (r : Result (List (List ℕ)) Refusal) →
    ((messages : List (List ℕ)) → r ≡ Ok messages → AllByRecursion (λ message. length message < 2 ^ 32) messages) →
    AllByRecursion IsShortReplyItem (items_of (answering messages r))
messages_short (Ok list) f = (tt, said_short list (f list refl))
messages_short (Err refusal) f = (tt, tt)

-- ---- a whole request

no_range : {X : Type 0} {source : SourceValue} (shape : X → AnswerValue) → ((x : X) → shape x ≡ range source → ⊥) → (r : Result X Refusal) →
    answering shape r ≡ Ok (range source) → source.until ≤ length source.text
no_range shape other (Ok x) h = absurd (other x (ok_is _ _ h))
no_range shape other (Err refusal) h = absurd (cc)

answer_short : (method : Method) (s : InstanceState) (request : List ℕ) → IsInstanceWithin s → IsShortRequest request →
    AllByRecursion IsShortReplyItem (items_of (answer_to method s request))
answer_short FindMissingBlobs s request w short =
    if_ok (find_missing_reply s.name (seen s) request) (λ reply h. find_missing_short s.name (seen s) request reply short h)
answer_short BatchUpdateBlobs s request w short =
    if_ok (batch_update_reply s.name s.quota request) (λ reply h. batch_update_short s.name s.quota request reply short h)
answer_short BatchReadBlobs s request w short =
    if_ok (batch_read_reply s.name (seen s) request) (λ reply h. batch_read_short s.name (seen s) request reply (all_named s w) short h)
answer_short GetTree s request w short = messages_short (get_tree_replies s.name (seen s) request)
    (λ pages h. get_tree_short s.name (seen s) request pages h)
answer_short GetActionResult s request w short =
    if_ok (get_action_result_reply s.name (seen s) s.results request)
    (λ reply h. get_action_result_short s.limits s.name (seen s) s.results request reply w.limits w.results h)
answer_short UpdateActionResult s request w short =
    if_ok (update_action_result_reply s.name request) (λ reply h. update_action_result_short s.name request reply short h)
answer_short GetCapabilities s request w short =
    if_ok (get_capabilities_reply s.name s.slots request) (λ reply h. get_capabilities_short s.name s.slots request reply h)
answer_short Read s request w short = read_short (read_answer s.name (seen s) request) (read_within s.name (seen s) request)
answer_short QueryWriteStatus s request w short =
    if_ok (query_reply s.name s.visible s.uploads request)
    (λ reply h. query_short s.name s.quota s.visible s.uploads request reply w.quota w.uploads h)
answer_short Execute s request w short = execute_items s request w
answer_short WaitExecution s request w short = wait_items s request w
answer_short Write s request w short = (tt, tt)

-- a range that is answered ends within its text
pub range_within_text : (method : Method) (s : InstanceState) (request : List ℕ) (source : SourceValue) →
    answer_to method s request ≡ Ok (range source) → source.until ≤ length source.text
range_within_text Read s request source h = go (read_answer s.name (seen s) request) refl h where
  go : (r : Result SourceValue Refusal) → read_answer s.name (seen s) request ≡ r → answering range r ≡ Ok (range source) →
      source.until ≤ length source.text
  go (Ok given) is h = let same : given ≡ source = cc in rw (← same) (read_within s.name (seen s) request given is)
  go (Err refusal) is h = absurd (cc)
range_within_text GetTree s request source h = no_range messages (λ list same. cc) (get_tree_replies s.name (seen s) request) h
range_within_text FindMissingBlobs s request source h =
    no_range one_message (λ bytes same. cc) (find_missing_reply s.name (seen s) request) h
range_within_text BatchUpdateBlobs s request source h =
    no_range one_message (λ bytes same. cc) (batch_update_reply s.name s.quota request) h
range_within_text BatchReadBlobs s request source h = no_range one_message (λ bytes same. cc) (batch_read_reply s.name (seen s) request) h
range_within_text GetActionResult s request source h =
    no_range one_message (λ bytes same. cc) (get_action_result_reply s.name (seen s) s.results request) h
range_within_text UpdateActionResult s request source h =
    no_range one_message (λ bytes same. cc) (update_action_result_reply s.name request) h
range_within_text GetCapabilities s request source h =
    no_range one_message (λ bytes same. cc) (get_capabilities_reply s.name s.slots request) h
range_within_text QueryWriteStatus s request source h =
    no_range one_message (λ bytes same. cc) (query_reply s.name s.visible s.uploads request) h
range_within_text Execute s request source h = absurd (execute_no_range s request source h)
range_within_text WaitExecution s request source h = absurd (wait_no_range s request source h)
range_within_text Write s request source h = absurd (cc)

-- ---- events

head_short : (id : CallId) (method : Method) (o : Option CallValue) → AllByRecursion IsShortReply (head_answer id method o).replies
head_short id method (Some call) = tt
head_short id method None = tt

first_written_short : (id : CallId) (method : Method) (changes : List InstanceChange) (r : Result WrittenValue Refusal) →
    ((reply : List ℕ) → r ≡ Ok (Writing.Answered reply) → length reply < 2 ^ 32)
    → AllByRecursion IsShortReply (first_write_answer id method changes r).replies
first_written_short id method changes (Ok (Writing.Goes call)) f = tt
first_written_short id method changes (Ok (Writing.Answered reply)) f = ((tt, (f reply refl, (tt, tt))), tt)
first_written_short id method changes (Err refusal) f = ((tt, tt), tt)

next_written_short : (id : CallId) (changes : List InstanceChange) (r : Result (Option (List ℕ)) Refusal) →
    ((reply : List ℕ) → r ≡ Ok (Some reply) → length reply < 2 ^ 32)
    → AllByRecursion IsShortReply (next_write_answer id changes r).replies
next_written_short id changes (Ok None) f = tt
next_written_short id changes (Ok (Some reply)) f = ((tt, (f reply refl, (tt, tt))), tt)
next_written_short id changes (Err refusal) f = ((tt, tt), tt)

first_message_short : (s : InstanceState) (id : CallId) (method : Method) (bytes : List ℕ) →
    AllByRecursion IsShortReply (first_message_answer s id method bytes).replies
first_message_short s id Write bytes =
    first_written_short id Write (first_changes s bytes) (first_outcome s bytes)
    (λ reply h. first_short s.name s.quota s.moment (Rattle.instance_core.specs.Writes.write_state s) bytes reply h)
first_message_short s id _ bytes = tt

message_short : (s : InstanceState) (id : CallId) (bytes : List ℕ) (o : Option CallValue) →
    IfSome o (λ call. IsProgressOf call.method call.progress) → AllByRecursion IsShortReply (message_answer s id bytes o).replies
message_short s id bytes None h = tt
message_short s id bytes (Some call) h = go call.progress h where
  go : (progress : ProgressValue) → IsProgressOf call.method progress →
      AllByRecursion IsShortReply (answer_by_progress s id call.method bytes progress).replies
  go waits h = first_message_short s id call.method bytes
  go (has first) h = ((tt, tt), tt)
  go (writes write) h = next_written_short id (next_changes s write bytes) (next_outcome s write bytes)
      (λ reply answered. next_short write s.quota s.moment s.uploads bytes reply h answered)
  go (watches n) h = tt

fault_short : (id : CallId) (refusal : Refusal) (o : Option CallValue) → AllByRecursion IsShortReply (fault_answer id refusal o).replies
fault_short id refusal None = tt
fault_short id refusal (Some call) = go call.progress where
  go : (progress : ProgressValue) → AllByRecursion IsShortReply (fault_by_progress id refusal progress).replies
  go (watches n) = tt
  go waits = ((tt, tt), tt)
  go (has first) = ((tt, tt), tt)
  go (writes write) = ((tt, tt), tt)

end_short : (s : InstanceState) (id : CallId) (o : Option CallValue) → IsInstanceWithin s →
    IfSome o (λ call. IsProgressOf call.method call.progress) → AllByRecursion IsShortReply (request_end_answer s id o).replies
end_short s id None w h = tt
end_short s id (Some call) w h = go call.progress h where
  go : (progress : ProgressValue) → IsProgressOf call.method progress →
      AllByRecursion IsShortReply (end_answer_by_progress s id call.method progress).replies
  go waits h = ((tt, tt), tt)
  go (has request) h = (answer_short call.method s request w h.1, tt)
  go (writes write) h = ((tt, (unfinished_short s.quota write.key s.uploads w.quota w.uploads, (tt, tt))), tt)
  go (watches n) h = tt

-- what is kept of a call is short
pub found_short : (id : CallId) (calls : Calls) → KeepShort calls →
    IfSome (call_at id calls) (λ call. IsProgressOf call.method call.progress)
found_short id [] h = tt
found_short id (c ∷ cs) h = go (same_call id c.0) (found_short id cs h.1) where
  go : (b : Bool) → IfSome (call_at id cs) (λ call. IsProgressOf call.method call.progress) →
      IfSome (cond b (Some c.1) (call_at id cs)) (λ call. IsProgressOf call.method call.progress)
  go true ih = h.0
  go false ih = ih

pub answers_short : (s : InstanceState) (event : CallEventValue) → IsShortEvent event → IsInstanceWithin s →
    AllByRecursion IsShortReply (answer s event).replies
answers_short s (head id method) short w = head_short id method (call_at id s.calls)
answers_short s (message id bytes) short w = message_short s id bytes (call_at id s.calls) (found_short id s.calls w.messages)
answers_short s (fault id refusal) short w = fault_short id refusal (call_at id s.calls)
answers_short s (end id) short w = end_short s id (call_at id s.calls) w (found_short id s.calls w.messages)
answers_short s (cancel id) short w = tt
answers_short s tick short w = tt
answers_short s start_jobs short w = start_replies s w
answers_short s end_late_jobs short w = tick_replies s w
answers_short s (end_job n outcome) short w = ending_replies s n outcome short w

pub shown_short : (p : Slots) (r : Result (Vec Reply Global) AllocError) (rs : List ReplyValue) →
    IfOk r (λ replies. map (reply_shown p) replies.items ≡ rs) → AllByRecursion IsShortReply rs
    → IfOk r (λ replies. AllByRecursion IsShortReply (map (reply_shown p) replies.items))
shown_short p (Ok replies) rs is all = rw is all
shown_short p (Err e) rs is all = tt

pub within_beside : (p : Slots) (v : ViewValue) (i : InstanceSlots) → IsInstanceInPool p i → IsBeside p v i →
    IsInstanceWithin (state_beside p v i)
within_beside p v i kept beside =
    let w = kept.within in
    record {
      quota = w.quota;
      limits = w.limits;
      texts = w.texts;
      uploads = w.uploads;
      results = w.results;
      slots = w.slots;
      jobs = w.jobs;
      running = w.running;
      whole = w.whole;
      told = w.told;
      calls = w.calls;
      messages = w.messages;
      parent = beside.named;
    }

-- .. and without its parent's texts
pub within_alone : (p : Slots) (v : ViewValue) (i : InstanceSlots) → IsInstanceWithin (state_beside p v i) → IsInstanceWithin (state_in p i)
within_alone p v i w =
    record {
      quota = w.quota;
      limits = w.limits;
      texts = w.texts;
      uploads = w.uploads;
      results = w.results;
      slots = w.slots;
      jobs = w.jobs;
      running = w.running;
      whole = w.whole;
      told = w.told;
      calls = w.calls;
      messages = w.messages;
      parent = tt;
    }

-- what an instance answers to an event within its limits
pub event_short : (p q : Slots) (v : ViewValue) (i j : InstanceSlots) (event : CallEventValue) (r : Result (Vec Reply Global) AllocError) →
    i ≡ j → IsInstanceInPool p j → IsBeside p v j →
    IfOk r (λ replies. map (reply_shown q) replies.items ≡ (answer (state_beside p v i) event).replies) → IsShortEvent event →
    IfOk r (λ replies. AllByRecursion IsShortReply (map (reply_shown q) replies.items))
event_short p q v i j event r same kept beside replies short =
    let within = subst (λ (k : InstanceSlots). IsInstanceWithin (state_beside p v k)) (sym same) (within_beside p v j kept beside) in
    shown_short q r (answer (state_beside p v i) event).replies replies (answers_short (state_beside p v i) event short within)

-- .. and the instance that it leaves keeps its limits
pub event_within : {X E : Type 0} (p q : Slots) (v : ViewValue) (i j : InstanceSlots) (event : CallEventValue) (r : Result X E) →
    IsInstanceInPool p i → IsBeside p v i → IsShortEvent event →
    OnOk r (state_beside q v j ≡ state_after (state_beside p v i) event) →
    OnErr r (MadeInPart (answer (state_beside p v i) event).changes (state_beside p v i) (state_beside q v j)) →
    IsInstanceWithin (state_in q j)
event_within p q v i j event (Ok x) kept beside short whole part =
    within_alone q v j (subst IsInstanceWithin (sym whole) (after_keeps (state_beside p v i) event short (within_beside p v i kept beside)))
event_within p q v i j event (Err e) kept beside short whole part =
    within_alone q v j (front_keeps (state_beside p v i) (state_beside q v j) event short (within_beside p v i kept beside) part)
