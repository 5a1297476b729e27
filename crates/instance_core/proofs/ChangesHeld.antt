-- What holds of each change that an event makes, whatever is to hold.
use Rattle.std.proofs.Common.{◌≡◌, ◌≢◌, ◌<◌, ◌^◌, ℕ, Bool, true, false, cond, List, [], ◌∷◌, ◌++◌, map, Option, Some, None, Result, Ok, Err, refl}
use Rattle.std.specs.Prelude.{is_some}
use Rattle.std.specs.List.{AllByRecursion}
use Rattle.rpc.specs.declared.method.Method.{Method}
use Rattle.rpc.specs.declared.method.Method.TheVariants as Called
use Rattle.rpc.specs.declared.refusal.Refusal.{Refusal}
use Rattle.cas_service.specs.Changes as Texts
use Rattle.digest.specs.declared.Digest.{Digest}
use Rattle.instance_view.specs.Visible.{visible_text}
use Rattle.bytestream.specs.Writing as Writing
use Rattle.bytestream.specs.Writing.{OpenWriteValue, PartValue, FirstAsked, WrittenValue, first_asked, next_asked, after_part}
use Rattle.bytestream.specs.Reading.{read_asked}
use Rattle.tree_calls.specs.Results.{after_get, after_update, get_action_result_changes}
use Rattle.tree_calls.specs.GetTree.{get_tree_changes}
use Rattle.cas_service.specs.FindMissing.{find_missing_changes}
use Rattle.cas_service.specs.BatchUpdate.{batch_update_changes}
use Rattle.cas_service.specs.BatchRead.{batch_read_changes}
use Rattle.execution.specs.Asking.{execute_asked}
use Rattle.instance_core.specs.declared.event.CallId.{CallId}
use Rattle.instance_core.specs.Calls.{ProgressValue, waits, has, writes, watches, CallValue, CallEventValue, head, message, fault, end, cancel, tick, start_jobs, end_late_jobs, end_job, call_at}
use Rattle.instance_core.specs.Replies.{AnswerValue, one_message, messages, range, watching}
use Rattle.instance_core.specs.State.{seen, InstanceState}
use Rattle.instance_core.specs.Methods.{use_asked, answer_to, request_changes, execution_changes}
use Rattle.instance_core.specs.Changes.{InstanceChange, Text, Goes, Ends, Wrote, Keeps, Expires}
use Rattle.instance_core.specs.Writes.{write_state, with_part, part_changes, first_part_changes, changes_asked, first_changes, next_changes, first_outcome, next_outcome}
use Rattle.instance_core.specs.Answer.{answer, call_change, head_answer, first_write_answer, next_write_answer, first_message_answer, answer_by_progress, message_answer, fault_by_progress, fault_answer, end_answer_by_progress, request_end_answer}
use Rattle.instance_core.specs.Named.{StoresNamedText}
use Rattle.instance_core.proofs.NamedTexts.{all_append, find_named, update_named, batch_named, tree_named, get_named, read_named}
use Rattle.instance_core.proofs.WriteLimits.{goes_below}

-- ---- answers, whatever is to hold of their changes

-- what is to hold of changes of an instance in this state
pub record Allows (s : InstanceState) (P : InstanceChange → Type 0) : Type 0 where
  pub texts : (c : Texts.TextChange) → StoresNamedText c → P (Text c)
  pub begun : (id : CallId) (method : Method) → P (Goes id (record { method = method; progress = waits }))
  pub written : (id : CallId) (method : Method) (write : OpenWriteValue) → write.key.digest.size < 2 ^ 63 →
      P (Goes id (record { method = method; progress = writes write }))
  pub ended : (id : CallId) → P (Ends id)
  pub expired : P Expires
  pub moved : (message : List ℕ) → P (Keeps (after_get s.name (seen s) s.results message))
  pub sent : (message : List ℕ) → P (Keeps (after_update s.name s.limits s.results message))
  pub first : (bytes : List ℕ) → AllByRecursion P (first_changes s bytes)
  pub next : (write : OpenWriteValue) (bytes : List ℕ) → AllByRecursion P (next_changes s write bytes)

abbrev pub AllAre : (InstanceChange → Type 0) → List InstanceChange → Type 0
AllAre P cs = AllByRecursion P cs

-- and of a message that is kept
abbrev pub KeepsMessage : (InstanceChange → Type 0) → CallId → List ℕ → Type 0
KeepsMessage P id bytes = (method : Method) → method ≢ Called.Write → P (Goes id (record { method = method; progress = has bytes }))

-- and of what Execute does
abbrev pub ExecutesHold : (InstanceChange → Type 0) → InstanceState → Method → List ℕ → Type 0
ExecutesHold P s Called.Execute request = AllAre P (execution_changes s (execute_asked s.name request))
ExecutesHold P s _ request = Unit {0}

-- .. and of the end of a request
abbrev pub EndsHold : (InstanceChange → Type 0) → InstanceState → CallId → Method → ProgressValue → Type 0
EndsHold P s id method (has request) = ExecutesHold P s method request × P (call_change id method (answer_to method s request))
EndsHold P s id method waits = Unit {0}
EndsHold P s id method (writes write) = Unit {0}
EndsHold P s id method (watches n) = Unit {0}

-- all that is to hold beside, of an event
abbrev pub HoldsBeside : (InstanceChange → Type 0) → InstanceState → CallEventValue → Type 0
HoldsBeside P s (message id bytes) = KeepsMessage P id bytes
HoldsBeside P s (head id method) = Unit {0}
HoldsBeside P s (fault id refusal) = Unit {0}
HoldsBeside P s (end id) = (call : CallValue) → EndsHold P s id call.method call.progress
HoldsBeside P s (cancel id) = Unit {0}
HoldsBeside P s tick = Unit {0}
HoldsBeside P s start_jobs = AllAre P (answer s start_jobs).changes
HoldsBeside P s end_late_jobs = AllAre P (answer s end_late_jobs).changes
HoldsBeside P s (end_job n outcome) = AllAre P (answer s (end_job n outcome)).changes

pub texts_hold : (s : InstanceState) (P : InstanceChange → Type 0) → Allows s P → (cs : List Texts.TextChange) →
    AllByRecursion StoresNamedText cs → AllAre P (map Text cs)
texts_hold s P a [] named = tt
texts_hold s P a (c ∷ cs) named = (a.texts c named.0, texts_hold s P a cs named.1)

head_holds : (s : InstanceState) (P : InstanceChange → Type 0) → Allows s P → (id : CallId) (method : Method) (o : Option CallValue) →
    AllAre P (head_answer id method o).changes
head_holds s P a id method (Some call) = tt
head_holds s P a id method None = (a.begun id method, tt)

-- a Write
ends_hold : (s : InstanceState) (P : InstanceChange → Type 0) → Allows s P → (id : CallId) (cs : List InstanceChange) → AllAre P cs →
    AllAre P (cs ++ Ends id ∷ [])
ends_hold s P a id cs all = all_append P cs (Ends id ∷ []) all (a.ended id, tt)

first_holds : (s : InstanceState) (P : InstanceChange → Type 0) → Allows s P →
    (id : CallId) (method : Method) (bytes : List ℕ) (r : Result WrittenValue Refusal) → first_outcome s bytes ≡ r →
    AllAre P (first_write_answer id method (first_changes s bytes) r).changes
first_holds s P a id method bytes (Ok (Writing.Goes write)) is =
    all_append P (first_changes s bytes) (Goes id (record { method = method; progress = writes write }) ∷ []) (a.first bytes)
    (a.written id method write (goes_below s bytes write is), tt)
first_holds s P a id method bytes (Ok (Writing.Answered reply)) is = ends_hold s P a id (first_changes s bytes) (a.first bytes)
first_holds s P a id method bytes (Err refusal) is = ends_hold s P a id (first_changes s bytes) (a.first bytes)

next_holds : (s : InstanceState) (P : InstanceChange → Type 0) → Allows s P →
    (id : CallId) (write : OpenWriteValue) (bytes : List ℕ) (r : Result (Option (List ℕ)) Refusal) →
    AllAre P (next_write_answer id (next_changes s write bytes) r).changes
next_holds s P a id write bytes (Ok None) = a.next write bytes
next_holds s P a id write bytes (Ok (Some reply)) = ends_hold s P a id (next_changes s write bytes) (a.next write bytes)
next_holds s P a id write bytes (Err refusal) = ends_hold s P a id (next_changes s write bytes) (a.next write bytes)

-- a message
with_first_holds : (s : InstanceState) (P : InstanceChange → Type 0) → Allows s P → (id : CallId) (method : Method) (bytes : List ℕ) →
    KeepsMessage P id bytes → AllAre P (first_message_answer s id method bytes).changes
with_first_holds s P a id Called.Write bytes keeps = first_holds s P a id Called.Write bytes (first_outcome s bytes) refl
with_first_holds s P a id method bytes keeps = (keeps method (λ write. cc), tt)

with_holds : (s : InstanceState) (P : InstanceChange → Type 0) → Allows s P →
    (id : CallId) (method : Method) (bytes : List ℕ) (p : ProgressValue) → KeepsMessage P id bytes →
    AllAre P (answer_by_progress s id method bytes p).changes
with_holds s P a id method bytes waits keeps = with_first_holds s P a id method bytes keeps
with_holds s P a id method bytes (has first) keeps = (a.ended id, tt)
with_holds s P a id method bytes (writes write) keeps = next_holds s P a id write bytes (next_outcome s write bytes)
with_holds s P a id method bytes (watches n) keeps = tt

message_holds : (s : InstanceState) (P : InstanceChange → Type 0) → Allows s P → (id : CallId) (bytes : List ℕ) (o : Option CallValue) →
    KeepsMessage P id bytes → AllAre P (message_answer s id bytes o).changes
message_holds s P a id bytes None keeps = tt
message_holds s P a id bytes (Some call) keeps = with_holds s P a id call.method bytes call.progress keeps

-- the end of a request
changes_hold : (s : InstanceState) (P : InstanceChange → Type 0) → Allows s P → (method : Method) (request : List ℕ) →
    ExecutesHold P s method request → AllAre P (request_changes method s request)
changes_hold s P a Called.FindMissingBlobs request e = texts_hold s P a (find_missing_changes s.name request) (find_named s request)
changes_hold s P a Called.BatchUpdateBlobs request e =
    texts_hold s P a (batch_update_changes s.name s.quota request) (update_named s request)
changes_hold s P a Called.BatchReadBlobs request e = texts_hold s P a (batch_read_changes s.name request) (batch_named s request)
changes_hold s P a Called.GetTree request e = texts_hold s P a (get_tree_changes s.name (seen s) request) (tree_named s request)
changes_hold s P a Called.GetActionResult request e =
    (a.moved request, texts_hold s P a (get_action_result_changes s.name (seen s) s.results request) (get_named s request))
changes_hold s P a Called.UpdateActionResult request e = (a.sent request, tt)
changes_hold s P a Called.Read request e = texts_hold s P a (use_asked (read_asked s.name request)) (read_named s request)
changes_hold s P a Called.Execute request e = e
changes_hold s P a method request e = tt

-- the call ends, or watches a job
pub call_holds : (P : InstanceChange → Type 0) (id : CallId) (method : Method) (r : Result AnswerValue Refusal) →
    ((n : ℕ) → P (Goes id (record { method = method; progress = watches n }))) → P (Ends id) → P (call_change id method r)
call_holds P id method (Ok (watching n operation)) watched ended = watched n
call_holds P id method (Ok (one_message bytes)) watched ended = ended
call_holds P id method (Ok (messages list)) watched ended = ended
call_holds P id method (Ok (range source)) watched ended = ended
call_holds P id method (Err refusal) watched ended = ended

pub request_holds : (s : InstanceState) (P : InstanceChange → Type 0) → Allows s P → (id : CallId) (method : Method) (p : ProgressValue) →
    EndsHold P s id method p → AllAre P (end_answer_by_progress s id method p).changes
request_holds s P a id method waits e = (a.ended id, tt)
request_holds s P a id method (has request) e =
    all_append P (request_changes method s request) (call_change id method (answer_to method s request) ∷ [])
    (changes_hold s P a method request e.0) (e.1, tt)
request_holds s P a id method (writes write) e = (a.ended id, tt)
request_holds s P a id method (watches n) e = tt

end_holds : (s : InstanceState) (P : InstanceChange → Type 0) → Allows s P → (id : CallId) (o : Option CallValue) →
    ((call : CallValue) → EndsHold P s id call.method call.progress) → AllAre P (request_end_answer s id o).changes
end_holds s P a id None e = tt
end_holds s P a id (Some call) e = request_holds s P a id call.method call.progress (e call)

fault_by : (s : InstanceState) (P : InstanceChange → Type 0) → Allows s P → (id : CallId) (refusal : Refusal) (p : ProgressValue) →
    AllAre P (fault_by_progress id refusal p).changes
fault_by s P a id refusal (watches n) = tt
fault_by s P a id refusal waits = (a.ended id, tt)
fault_by s P a id refusal (has request) = (a.ended id, tt)
fault_by s P a id refusal (writes write) = (a.ended id, tt)

fault_holds : (s : InstanceState) (P : InstanceChange → Type 0) → Allows s P → (id : CallId) (refusal : Refusal) (o : Option CallValue) →
    AllAre P (fault_answer id refusal o).changes
fault_holds s P a id refusal None = tt
fault_holds s P a id refusal (Some call) = fault_by s P a id refusal call.progress

pub answer_holds : (s : InstanceState) (P : InstanceChange → Type 0) → Allows s P → (event : CallEventValue) → HoldsBeside P s event →
    AllAre P (answer s event).changes
answer_holds s P a (head id method) beside = head_holds s P a id method (call_at id s.calls)
answer_holds s P a (message id bytes) beside = message_holds s P a id bytes (call_at id s.calls) beside
answer_holds s P a (fault id refusal) beside = fault_holds s P a id refusal (call_at id s.calls)
answer_holds s P a (end id) beside = end_holds s P a id (call_at id s.calls) beside
answer_holds s P a (cancel id) beside = (a.ended id, tt)
answer_holds s P a tick beside = (a.expired, tt)
answer_holds s P a start_jobs beside = beside
answer_holds s P a end_late_jobs beside = beside
answer_holds s P a (end_job n outcome) beside = beside

-- ---- a message of a Write

-- both changes of a part
abbrev pub AllowsPart : Bool → InstanceState → (InstanceChange → Type 0) → Type 0
AllowsPart first s P = (part : PartValue) → P (Wrote (with_part first s part))
    × P (Wrote (after_part first s.limits.blobs s.quota s.moment part (write_state s)))

pub first_by : (s : InstanceState) (P : InstanceChange → Type 0) → ((d : Digest) → P (Text (Texts.Use d))) → AllowsPart true s P →
    (bytes : List ℕ) → AllAre P (first_changes s bytes)
first_by s P used both bytes = go (first_asked s.name bytes) where
  seen_or_not : (asked : FirstAsked) (b : Bool) →
      AllAre P (cond b (Text (Texts.Use asked.part.key.digest) ∷ []) (part_changes true s asked.part))
  seen_or_not asked true = (used asked.part.key.digest, tt)
  seen_or_not asked false = let two = both asked.part in (two.0, (two.1, tt))

  go : (r : Result FirstAsked Refusal) → AllAre P (changes_asked (first_part_changes s) r)
  go (Ok asked) = seen_or_not asked (is_some (visible_text asked.part.key.digest s.visible))
  go (Err refusal) = tt

pub next_by : (s : InstanceState) (P : InstanceChange → Type 0) → AllowsPart false s P → (write : OpenWriteValue) (bytes : List ℕ) →
    AllAre P (next_changes s write bytes)
next_by s P both write bytes = go (next_asked write bytes) where
  go : (r : Result PartValue Refusal) → AllAre P (changes_asked (part_changes false s) r)
  go (Ok part) = let two = both part in (two.0, (two.1, tt))
  go (Err refusal) = tt
