-- Each change of an event is by rule.
use Rattle.std.proofs.Common.{◌≡◌, ℕ, ◌+◌, ◌<◌, Bool, true, false, cond, List, [], ◌∷◌, ◌++◌, length, map, Option, Some, None, Result, Ok, Err, refl, ap, subst, ◌∙◌, inl, inr, arith}
use Rattle.std.specs.Prelude.{◌&&◌, not, is_some, nat_eq, nat_le, nat_lt}
use Rattle.std.specs.List.{AllByRecursion}
use Rattle.std.proofs.lemmas.Bool.Decides.{nat_tests}
use Rattle.rpc.specs.declared.method.Method.{Method}
use Rattle.rpc.specs.declared.method.Method.TheVariants as Called
use Rattle.rpc.specs.declared.refusal.Refusal.{Refusal}
use Rattle.rpc.specs.declared.refusal.Refusal.TheVariants.{ExecutionIsOff, QueueFull}
use Rattle.digest.specs.declared.Digest.{Digest}
use Rattle.digest.specs.declared.Hash.{Hash as BlobHash}
use Rattle.digest.specs.Naming.{Names, digest_by, function_of, hash_by, same_digest, is_digest_of}
use Rattle.digest.proofs.Same.{same_names, same_refl}
use Rattle.instance_view.specs.Visible.{Blob, visible_text, with_match_first}
use Rattle.cas_service.specs.Changes as Texts
use Rattle.uploads.specs.declared.error.UploadError.{UploadError}
use Rattle.uploads.specs.declared.error.UploadError.TheVariants.{Offset, Size, Hash, TooMany, OverQuota, NoMemory}
use Rattle.uploads.specs.declared.steps.TheConstants.{MOST_UPLOADS}
use Rattle.uploads.specs.Uploads.{KeyValue, UploadList, upload_at, text_so_far, uploads_length}
use Rattle.uploads.specs.Writing.{PieceValue, is_place, if_ok, piece_answer, finish_answer}
use Rattle.action_cache.specs.Answering.{blobs_for, blobs_used, results_after}
use Rattle.job_queue.specs.Jobs.{running_job}
use Rattle.job_queue.specs.declared.queue.TheConstants.{LAST_NUMBER, MOST_WAITING}
use Rattle.execution_messages.specs.Progress.{completed_text, finds, queued_text}
use Rattle.execution.specs.Job.{JobValue}
use Rattle.execution.specs.Preparing.{FaultValue, PreparedValue, prepared, met, job_of}
use Rattle.execution.specs.Execute as Executor
use Rattle.execution.specs.Execute.{ExecuteChange, ExecuteDone, queued, by_fault, by_job, by_looking, by_preparing, execute, look_in, looked_up, refused as refused_with}
use Rattle.run_calls.specs.Outcomes.{OutcomeValue}
use Rattle.execution.specs.Asking.{ExecuteAskedValue, execute_asked}
use Rattle.outcomes.specs.Ending.{admissions, results_with}
use Rattle.tree_calls.specs.Asking.{ResultSentValue, action_asked, result_sent}
use Rattle.tree_calls.specs.GetTree.{texts_seen, get_tree_changes}
use Rattle.tree_calls.specs.Results.{get_action_result_changes, after_asking, after_sending}
use Rattle.cas_service.specs.FindMissing.{find_missing_changes}
use Rattle.cas_service.specs.BatchUpdate.{batch_update_changes}
use Rattle.cas_service.specs.BatchRead.{batch_read_changes}
use Rattle.bytestream.specs.Reading.{read_asked}
use Rattle.bytestream.specs.Writing as Writing
use Rattle.bytestream.specs.Writing.{OpenWriteValue, PartValue, WrittenValue, WriteState, FirstAsked, first_asked, next_asked, part_outcome, after_last_part, after_end, after_taking}
use Rattle.instance_core.specs.declared.event.CallId.{CallId}
use Rattle.instance_core.specs.Calls.{ProgressValue, waits, has, writes, watches, CallValue, CallEventValue, head, message, fault, end, cancel, tick, start_jobs, end_late_jobs, end_job, call_at}
use Rattle.instance_core.specs.State.{InstanceState, LimitsValue, seen}
use Rattle.instance_core.specs.Changes.{InstanceChange, Text, Goes, Ends, Keeps, Does, Pushes, Settles}
use Rattle.instance_core.specs.Methods.{use_asked, answer_to, request_changes, execution_state, execution_change, execution_changes}
use Rattle.instance_core.specs.Named.{StoresNamedText}
use Rattle.instance_core.specs.Writes.{write_state, with_piece, part_changes, first_part_changes, changes_asked, first_changes, next_changes, first_outcome, next_outcome}
use Rattle.instance_core.specs.Answer.{answer, call_change, ending_at, ending_changes, ending_steps, head_answer, first_write_answer, next_write_answer, first_message_answer, answer_by_progress, message_answer, fault_by_progress, fault_answer, end_answer_by_progress, request_end_answer}
use Rattle.instance_core.specs.Losses.{BringsPiece, uploads_with, text_with, WritesByRule, NothingWritten, PieceTaken, UploadFinished, UploadMisnamed, UploadTooLong, IsAsked, AsksForResult, Got, Executed, BringsResult, Sent, Ran, ResultsByRule, ResultsStay, ResultUsed, ResultStored, IsByRule}
use Rattle.instance_core.proofs.ChangesHeld.{call_holds}
use Rattle.instance_core.proofs.NamedTexts.{all_append, find_named, update_named, batch_named, tree_named, get_named, read_named}
use Rattle.instance_core.proofs.Outputs.{ending_stores}

abbrev AreByRule : InstanceState → CallEventValue → List InstanceChange → Type 0
AreByRule s event cs = AllByRecursion (IsByRule s event) cs

-- ---- the texts and the results that a request changes

texts_by_rule : (s : InstanceState) (event : CallEventValue) (cs : List Texts.TextChange) → AllByRecursion StoresNamedText cs →
    AreByRule s event (map Text cs)
texts_by_rule s event [] named = tt
texts_by_rule s event (c ∷ cs) named = (named.0, texts_by_rule s event cs named.1)

got : (s : InstanceState) (event : CallEventValue) (request : List ℕ) → IsAsked s event Called.GetActionResult request →
    (asked : Result Digest Refusal) → action_asked s.name request ≡ asked → ResultsByRule s event (after_asking (seen s) s.results asked)
got s event request asks (Ok action) is = go (is_some (blobs_for (texts_seen (seen s)) action s.results)) where
  go : (b : Bool) → ResultsByRule s event (cond b (with_match_first (same_digest action) s.results) s.results)
  go true = ResultUsed action (Got request asks is) refl
  go false = ResultsStay refl
got s event request asks (Err refusal) is = ResultsStay refl

put : (s : InstanceState) (event : CallEventValue) (request : List ℕ) → IsAsked s event Called.UpdateActionResult request →
    (sent : Result ResultSentValue Refusal) → result_sent s.name request ≡ sent →
    ResultsByRule s event (after_sending s.limits s.results sent)
put s event request asks (Ok sent) is = ResultStored sent.action sent.text (Sent request sent asks is refl refl) refl
put s event request asks (Err refusal) is = ResultsStay refl

-- ---- executions

-- the results stay
abbrev NoResults : List ExecuteChange → Type 0
NoResults [] = Unit {0}
NoResults (Executor.Uses d ∷ changes) = NoResults changes
NoResults (Executor.Keeps results ∷ changes) = ⊥
NoResults (Executor.Does operation ∷ changes) = NoResults changes
NoResults (Executor.Pushes job ∷ changes) = NoResults changes

execution_by_rule : (s : InstanceState) (event : CallEventValue) (changes : List ExecuteChange) → NoResults changes →
    AreByRule s event (map execution_change changes)
execution_by_rule s event [] few = tt
execution_by_rule s event (Executor.Uses d ∷ changes) few = (tt, execution_by_rule s event changes few)
execution_by_rule s event (Executor.Keeps results ∷ changes) few = absurd few
execution_by_rule s event (Executor.Does operation ∷ changes) few = (tt, execution_by_rule s event changes few)
execution_by_rule s event (Executor.Pushes job ∷ changes) few = (tt, execution_by_rule s event changes few)

uses_only : (ds : List Digest) (last : ExecuteChange) → NoResults (last ∷ []) → NoResults (map Executor.Uses ds ++ last ∷ [])
uses_only [] last h = h
uses_only (d ∷ ds) last h = uses_only ds last h

-- the result that is used is the first change of all
result_used : (s : InstanceState) (event : CallEventValue) (d : Digest) → AsksForResult s event d →
    ResultsByRule s event (results_after (look_in (execution_state s)) d s.results)
result_used s event d asks = go (is_some (blobs_for (look_in (execution_state s)) d s.results)) where
  go : (b : Bool) → ResultsByRule s event (cond b (with_match_first (same_digest d) s.results) s.results)
  go true = ResultUsed d asks refl
  go false = ResultsStay refl

abbrev DoneByRule : InstanceState → CallEventValue → ExecuteDone → Type 0
DoneByRule s event x = AreByRule s event (map execution_change x.changes)

job_by_rule : (s : InstanceState) (event : CallEventValue) (d : Digest) (p : PreparedValue) →
    DoneByRule s event (by_job (execution_state s) d p)
job_by_rule s event d p = go (nat_le MOST_WAITING (length s.jobs.waiting)) where
  go : (b : Bool) → DoneByRule s event (cond b (refused_with QueueFull)
      (record {
        answer = Ok (queued s.jobs.next (queued_text s.jobs.next d));
        changes =
            map Executor.Uses (met d p) ++ Executor.Pushes (job_of (look_in (execution_state s)) d p) ∷ [];
      }))
  go true = tt
  go false =
      execution_by_rule s event (map Executor.Uses (met d p) ++ Executor.Pushes (job_of (look_in (execution_state s)) d p) ∷ [])
      (uses_only (met d p) (Executor.Pushes (job_of (look_in (execution_state s)) d p)) tt)

looking_by_rule : (s : InstanceState) (event : CallEventValue) (d : Digest) → AsksForResult s event d → (o : Option (List ℕ)) →
    DoneByRule s event (by_looking (execution_state s) d o)
looking_by_rule s event d asks (Some text) =
    let used = blobs_used (look_in (execution_state s)) d s.results in
    let last : ExecuteChange = Executor.Does (completed_text s.jobs.next d (finds text)) in
    (result_used s event d asks, execution_by_rule s event (map Executor.Uses used ++ last ∷ []) (uses_only used last tt))
looking_by_rule s event d asks None = go (prepared (look_in (execution_state s)) d) where
  go : (r : Result PreparedValue FaultValue) → DoneByRule s event (by_preparing (execution_state s) d r)
  go (Ok p) = job_by_rule s event d p
  go (Err f) = execution_by_rule s event (by_fault (execution_state s) d f).changes tt

done_by_rule : (s : InstanceState) (event : CallEventValue) (skip : Bool) (d : Digest) → AsksForResult s event d →
    DoneByRule s event (execute s.slots (execution_state s) skip d)
done_by_rule s event skip d asks = off (nat_eq s.slots 0) (nat_lt LAST_NUMBER s.jobs.next) where
  off : (a b : Bool) → DoneByRule s event (cond a (refused_with ExecutionIsOff)
      (cond b (refused_with QueueFull) (by_looking (execution_state s) d (looked_up skip (look_in (execution_state s)) d s.results))))
  off true b = tt
  off false true = tt
  off false false = looking_by_rule s event d asks (looked_up skip (look_in (execution_state s)) d s.results)

executed_by_rule : (s : InstanceState) (event : CallEventValue) (request : List ℕ) → IsAsked s event Called.Execute request →
    (asked : Result ExecuteAskedValue Refusal) → execute_asked s.name request ≡ asked → AreByRule s event (execution_changes s asked)
executed_by_rule s event request asks (Err refusal) is = tt
executed_by_rule s event request asks (Ok asked) is =
    done_by_rule s event asked.skips_lookup asked.action (Executed request asked asks is refl)

-- ---- requests

changes_by_rule : (s : InstanceState) (event : CallEventValue) (method : Method) (request : List ℕ) → IsAsked s event method request →
    AreByRule s event (request_changes method s request)
changes_by_rule s event Called.FindMissingBlobs request asks =
    texts_by_rule s event (find_missing_changes s.name request) (find_named s request)
changes_by_rule s event Called.BatchUpdateBlobs request asks =
    texts_by_rule s event (batch_update_changes s.name s.quota request) (update_named s request)
changes_by_rule s event Called.BatchReadBlobs request asks =
    texts_by_rule s event (batch_read_changes s.name request) (batch_named s request)
changes_by_rule s event Called.GetTree request asks =
    texts_by_rule s event (get_tree_changes s.name (seen s) request) (tree_named s request)
changes_by_rule s event Called.GetActionResult request asks = (
  got s event request asks (action_asked s.name request) refl,
  texts_by_rule s event
      (get_action_result_changes s.name (seen s) s.results request) (get_named s request),
)
changes_by_rule s event Called.UpdateActionResult request asks = (put s event request asks (result_sent s.name request) refl, tt)
changes_by_rule s event Called.Read request asks = texts_by_rule s event (use_asked (read_asked s.name request)) (read_named s request)
changes_by_rule s event Called.Execute request asks = executed_by_rule s event request asks (execute_asked s.name request) refl
changes_by_rule s event method request asks = tt

request_by_rule : (s : InstanceState) (event : CallEventValue) (id : CallId) (method : Method) (request : List ℕ) →
    IsAsked s event method request → AreByRule s event
    (request_changes method s request ++ call_change id method (answer_to method s request) ∷ [])
request_by_rule s event id method request asks =
    all_append (IsByRule s event) (request_changes method s request) (call_change id method (answer_to method s request) ∷ [])
    (changes_by_rule s event method request asks)
    (call_holds (IsByRule s event) id method (answer_to method s request) (λ n. tt) tt, tt)

-- ---- the end of a job

stores_result : (s : InstanceState) (n : ℕ) (outcome : OutcomeValue) (job : JobValue) → running_job n s.jobs ≡ Some job →
    (stored : Option (List ℕ)) → (ending_at s outcome job).stored ≡ stored →
    ResultsByRule s (end_job n outcome) (results_with s.limits job.action stored s.results)
stores_result s n outcome job runs None is = ResultsStay refl
stores_result s n outcome job runs (Some text) is = ResultStored job.action text (Ran n outcome job refl runs refl is) refl

ending_by_rule : (s : InstanceState) (n : ℕ) (outcome : OutcomeValue) (o : Option JobValue) → running_job n s.jobs ≡ o →
    AreByRule s (end_job n outcome) (ending_changes s outcome o)
ending_by_rule s n outcome None is = tt
ending_by_rule s n outcome (Some job) is =
    let end = ending_at s outcome job in
    all_append (IsByRule s (end_job n outcome)) (map Text (admissions end.blobs))
    (Keeps (results_with s.limits job.action end.stored s.results) ∷ [])
    (texts_by_rule s (end_job n outcome) (admissions end.blobs) (ending_stores s.quota s.visible job outcome))
    (stores_result s n outcome job is end.stored refl, tt)

-- ---- a piece of an upload, and its end

abbrev refused : UploadError → Result Unit UploadError
refused e = Err e

abbrev taken : Result Unit UploadError
taken = Ok tt

long_by : (a b c : Bool) → cond (not a) (refused Offset) (cond b (refused Size) (cond c (refused OverQuota) taken)) ≡ refused Size →
    b ≡ true
long_by true true c is = refl
long_by true false true is = absurd (cc)
long_by true false false is = absurd (cc)
long_by false b c is = absurd (cc)

-- a piece is refused for the size alone where it would bring its upload past it
long_piece : (quota : ℕ) (key : KeyValue) (piece : PieceValue) (us : UploadList) → piece_answer quota key piece us ≡ Err Size →
    key.digest.size < length (text_so_far key us) + length piece.bytes
long_piece quota key piece us is =
    let past = long_by (is_place piece.offset (length (text_so_far key us)))
    (nat_lt key.digest.size (length (text_so_far key us) + length piece.bytes))
    (nat_lt quota (uploads_length us + length piece.bytes)) is in
    grind (arith, nat_tests, past)

long_begun : (a b : Bool) (quota : ℕ) (key : KeyValue) (piece : PieceValue) (us : UploadList) →
    if_ok (cond a (refused OverQuota) (cond b (refused TooMany) taken)) (piece_answer quota key piece us) ≡ Err Size →
    piece_answer quota key piece us ≡ Err Size
long_begun true b quota key piece us is = absurd (cc)
long_begun false true quota key piece us is = absurd (cc)
long_begun false false quota key piece us is = is

long_added : (there : Bool) (quota : ℕ) (key : KeyValue) (piece : PieceValue) (us : UploadList) →
    cond there (piece_answer quota key piece us) (refused Offset) ≡ Err Size → piece_answer quota key piece us ≡ Err Size
long_added true quota key piece us is = is
long_added false quota key piece us is = absurd (cc)

long_part : (first : Bool) (quota : ℕ) (part : PartValue) (us : UploadList) → part_outcome first quota part us ≡ Err Size →
    part.key.digest.size < length (text_so_far part.key us) + length part.piece.bytes
long_part true quota part us is =
    long_piece quota part.key part.piece us
    (long_begun (nat_lt quota part.key.digest.size)
    (not (is_some (upload_at part.key us)) && nat_le MOST_UPLOADS (length us)) quota part.key part.piece us is)
long_part false quota part us is = long_piece quota part.key part.piece us
    (long_added (is_some (upload_at part.key us)) quota part.key part.piece us is)

-- a digest passes the test of the bytes that it names
names_same : (d : Digest) (bytes : List ℕ) → Names d bytes → is_digest_of d bytes ≡ true
names_same d bytes names =
    let of_hash : BlobHash → Digest = λ h. record { hash = h; size = d.size } in
    let of_size : ℕ → Digest = λ n. record { hash = hash_by (function_of d.hash) bytes; size = n } in
    let equal : d ≡ digest_by (function_of d.hash) bytes = ap of_hash names.hash ∙ ap of_size names.size in
    subst (λ (x : Digest). same_digest d x ≡ true) equal (same_refl d)

misnamed : (d : Digest) (bytes : List ℕ) → is_digest_of d bytes ≡ false → Names d bytes → ⊥
misnamed d bytes is names = let other = names_same d bytes names in absurd (cc)

-- the state with a piece that was taken
abbrev with_taken : PartValue → InstanceState → WriteState
with_taken part s = record (write_state s) { uploads = uploads_with part s }

last_by_rule : (s : InstanceState) (event : CallEventValue) (part : PartValue) → BringsPiece s event part → part.is_last ≡ true →
    WritesByRule s event (after_last_part s.limits.blobs s.quota part.key (finish_answer part.key (uploads_with part s))
    (with_taken part s))
last_by_rule s event part brings last = go (is_digest_of part.key.digest (text_with part s)) refl where
  go : (b : Bool) → is_digest_of part.key.digest (text_with part s) ≡ b →
      WritesByRule s event (after_last_part s.limits.blobs s.quota part.key (cond b taken (refused Hash)) (with_taken part s))
  go true is = UploadFinished part brings last (same_names part.key.digest (text_with part s) is) refl
  go false is = UploadMisnamed part brings last (misnamed part.key.digest (text_with part s) is) refl

end_by_rule : (s : InstanceState) (event : CallEventValue) (part : PartValue) → BringsPiece s event part →
    WritesByRule s event (after_end s.limits.blobs s.quota part (with_taken part s))
end_by_rule s event part brings = go part.is_last refl where
  go : (last : Bool) → part.is_last ≡ last → WritesByRule s event
      (cond last (after_last_part s.limits.blobs s.quota part.key (finish_answer part.key (uploads_with part s)) (with_taken part s))
      (with_taken part s))
  go true is = last_by_rule s event part brings is
  go false is = PieceTaken part brings refl

piece_by_rule : (s : InstanceState) (event : CallEventValue) (part : PartValue) → BringsPiece s event part → (r : Result Unit UploadError) →
    WritesByRule s event (with_piece s.moment part r (write_state s))
piece_by_rule s event part brings (Ok u) = PieceTaken part brings refl
piece_by_rule s event part brings (Err e) = NothingWritten refl

whole_by_rule : (first : Bool) (s : InstanceState) (event : CallEventValue) (part : PartValue) → BringsPiece s event part →
    (r : Result Unit UploadError) → part_outcome first s.quota part s.uploads ≡ r →
    WritesByRule s event (after_taking s.limits.blobs s.quota s.moment part r (write_state s))
whole_by_rule first s event part brings (Ok u) is = end_by_rule s event part brings
whole_by_rule first s event part brings (Err Size) is = UploadTooLong part brings (long_part first s.quota part s.uploads is) refl
whole_by_rule first s event part brings (Err Offset) is = NothingWritten refl
whole_by_rule first s event part brings (Err Hash) is = NothingWritten refl
whole_by_rule first s event part brings (Err TooMany) is = NothingWritten refl
whole_by_rule first s event part brings (Err OverQuota) is = NothingWritten refl
whole_by_rule first s event part brings (Err NoMemory) is = NothingWritten refl

part_by_rule : (first : Bool) (s : InstanceState) (event : CallEventValue) (part : PartValue) → BringsPiece s event part →
    AreByRule s event (part_changes first s part)
part_by_rule first s event part brings =
    let r = part_outcome first s.quota part s.uploads in
    (piece_by_rule s event part brings r, (whole_by_rule first s event part brings r refl, tt))

-- ---- a message of a Write

first_by_rule : (s : InstanceState) (id : CallId) (bytes : List ℕ) → AreByRule s (message id bytes) (first_changes s bytes)
first_by_rule s id bytes = go (first_asked s.name bytes) refl where
  seen_or_not : (asked : FirstAsked) → first_asked s.name bytes ≡ Ok asked → (b : Bool) →
      AreByRule s (message id bytes) (cond b (Text (Texts.Use asked.part.key.digest) ∷ []) (part_changes true s asked.part))
  seen_or_not asked is true = (tt, tt)
  seen_or_not asked is false = part_by_rule true s (message id bytes) asked.part (inl (record { name = asked.name; asks = is }))

  go : (r : Result FirstAsked Refusal) → first_asked s.name bytes ≡ r →
      AreByRule s (message id bytes) (changes_asked (first_part_changes s) r)
  go (Ok asked) is = seen_or_not asked is (is_some (visible_text asked.part.key.digest s.visible))
  go (Err refusal) is = tt

next_by_rule : (s : InstanceState) (id : CallId) (bytes : List ℕ) (call : CallValue) (write : OpenWriteValue) →
    call_at id s.calls ≡ Some call → call.progress ≡ writes write → AreByRule s (message id bytes) (next_changes s write bytes)
next_by_rule s id bytes call write here writing = go (next_asked write bytes) refl where
  go : (r : Result PartValue Refusal) → next_asked write bytes ≡ r → AreByRule s (message id bytes) (changes_asked (part_changes false s) r)
  go (Ok part) is = part_by_rule false s (message id bytes) part
      (inr (record { call = call; in_course = here; write = write; is_written = writing; asks = is }))
  go (Err refusal) is = tt

-- these, and then the call goes on or ends
then_by_rule : (s : InstanceState) (event : CallEventValue) (cs : List InstanceChange) (c : InstanceChange) → AreByRule s event cs →
    IsByRule s event c → AreByRule s event (cs ++ c ∷ [])
then_by_rule s event cs c all last = all_append (IsByRule s event) cs (c ∷ []) all (last, tt)

first_write : (s : InstanceState) (event : CallEventValue) (id : CallId) (method : Method) (changes : List InstanceChange) →
    AreByRule s event changes → (r : Result WrittenValue Refusal) → AreByRule s event (first_write_answer id method changes r).changes
first_write s event id method changes all (Ok (Writing.Goes write)) =
    then_by_rule s event changes (Goes id (record { method = method; progress = writes write })) all tt
first_write s event id method changes all (Ok (Writing.Answered reply)) = then_by_rule s event changes (Ends id) all tt
first_write s event id method changes all (Err refusal) = then_by_rule s event changes (Ends id) all tt

next_write : (s : InstanceState) (event : CallEventValue) (id : CallId) (changes : List InstanceChange) → AreByRule s event changes →
    (r : Result (Option (List ℕ)) Refusal) → AreByRule s event (next_write_answer id changes r).changes
next_write s event id changes all (Ok None) = all
next_write s event id changes all (Ok (Some reply)) = then_by_rule s event changes (Ends id) all tt
next_write s event id changes all (Err refusal) = then_by_rule s event changes (Ends id) all tt

-- ---- an event, by its kinds

head_by_rule : (s : InstanceState) (id : CallId) (method : Method) (o : Option CallValue) →
    AreByRule s (head id method) (head_answer id method o).changes
head_by_rule s id method (Some call) = tt
head_by_rule s id method None = (tt, tt)

first_message : (s : InstanceState) (id : CallId) (method : Method) (bytes : List ℕ) →
    AreByRule s (message id bytes) (first_message_answer s id method bytes).changes
first_message s id Called.Write bytes = first_write s (message id bytes) id Called.Write (first_changes s bytes) (first_by_rule s id bytes)
    (first_outcome s bytes)
first_message s id method bytes = (tt, tt)

by_progress : (s : InstanceState) (id : CallId) (bytes : List ℕ) (call : CallValue) → call_at id s.calls ≡ Some call → (p : ProgressValue) →
    call.progress ≡ p → AreByRule s (message id bytes) (answer_by_progress s id call.method bytes p).changes
by_progress s id bytes call here waits is = first_message s id call.method bytes
by_progress s id bytes call here (has first) is = (tt, tt)
by_progress s id bytes call here (writes write) is =
    next_write s (message id bytes) id (next_changes s write bytes) (next_by_rule s id bytes call write here is)
    (next_outcome s write bytes)
by_progress s id bytes call here (watches n) is = tt

message_by_rule : (s : InstanceState) (id : CallId) (bytes : List ℕ) (o : Option CallValue) → call_at id s.calls ≡ o →
    AreByRule s (message id bytes) (message_answer s id bytes o).changes
message_by_rule s id bytes None is = tt
message_by_rule s id bytes (Some call) is = by_progress s id bytes call is call.progress refl

fault_by : (s : InstanceState) (event : CallEventValue) (id : CallId) (refusal : Refusal) (p : ProgressValue) →
    AreByRule s event (fault_by_progress id refusal p).changes
fault_by s event id refusal (watches n) = tt
fault_by s event id refusal waits = (tt, tt)
fault_by s event id refusal (has first) = (tt, tt)
fault_by s event id refusal (writes write) = (tt, tt)

fault_by_rule : (s : InstanceState) (event : CallEventValue) (id : CallId) (refusal : Refusal) (o : Option CallValue) →
    AreByRule s event (fault_answer id refusal o).changes
fault_by_rule s event id refusal None = tt
fault_by_rule s event id refusal (Some call) = fault_by s event id refusal call.progress

ended_by : (s : InstanceState) (id : CallId) (call : CallValue) → call_at id s.calls ≡ Some call → (p : ProgressValue) → call.progress ≡ p →
    AreByRule s (end id) (end_answer_by_progress s id call.method p).changes
ended_by s id call here waits is = (tt, tt)
ended_by s id call here (has request) is =
    request_by_rule s (end id) id call.method request
    (record { id = id; ends = refl; call = call; in_course = here; of_method = refl; came = is })
ended_by s id call here (writes write) is = (tt, tt)
ended_by s id call here (watches n) is = tt

ended_by_rule : (s : InstanceState) (id : CallId) (o : Option CallValue) → call_at id s.calls ≡ o →
    AreByRule s (end id) (request_end_answer s id o).changes
ended_by_rule s id None is = tt
ended_by_rule s id (Some call) is = ended_by s id call is call.progress refl

pub changes_are_by_rule : (s : InstanceState) (event : CallEventValue) → AllByRecursion (IsByRule s event) (answer s event).changes
changes_are_by_rule s (head id method) = head_by_rule s id method (call_at id s.calls)
changes_are_by_rule s (message id bytes) = message_by_rule s id bytes (call_at id s.calls) refl
changes_are_by_rule s (fault id refusal) = fault_by_rule s (fault id refusal) id refusal (call_at id s.calls)
changes_are_by_rule s (end id) = ended_by_rule s id (call_at id s.calls) refl
changes_are_by_rule s (cancel id) = (tt, tt)
changes_are_by_rule s tick = (tt, tt)
changes_are_by_rule s start_jobs = (refl, tt)
changes_are_by_rule s end_late_jobs = (refl, tt)
changes_are_by_rule s (end_job n outcome) =
    then_by_rule s (end_job n outcome) (ending_changes s outcome (running_job n s.jobs))
    (Settles (ending_steps s n outcome (running_job n s.jobs))) (ending_by_rule s n outcome (running_job n s.jobs) refl) refl

front_by : (s : InstanceState) (event : CallEventValue) (made left : List InstanceChange) → AreByRule s event (made ++ left) →
    AreByRule s event made
front_by s event [] left rules = tt
front_by s event (c ∷ made) left rules = (rules.0, front_by s event made left rules.1)

-- so is each of a front of them
pub front_is_by_rule : (s : InstanceState) (event : CallEventValue) (made left : List InstanceChange) →
    (answer s event).changes ≡ made ++ left → AllByRecursion (IsByRule s event) made
front_is_by_rule s event made left front = front_by s event made left (subst (AreByRule s event) front (changes_are_by_rule s event))
