-- What an event of a call serves is named by the digest that was asked for, and a result that it
-- serves is complete.
use Rattle.std.proofs.Common.{◌≡◌, ℕ, ℤ, pos, negsuc, ◌+◌, ◌-◌, ◌<◌, ◌≤◌, List, [], ◌∷◌, ◌++◌, refl, sym, ap, ◌∙◌, subst, inl, inr, length, arith, take, drop}
use Rattle.std.specs.Prelude.{Bool, true, false, cond, ◌==◌, ◌⊎◌, nat_eq, nat_lt, nat_le, min, map, is_some, Option, Some, None, Result, Ok, Err}
use Rattle.std.specs.List.{AllByRecursion}
use Rattle.std.proofs.lemmas.Bool.Decides.{nat_tests}
use Rattle.std.proofs.lemmas.List.{length-drop, take_all}
use Rattle.digest.specs.declared.Digest.{Digest}
use Rattle.instance_view.specs.Visible.{visible_text}
use Rattle.quota_evict.proofs.Seen.{named_by}
use Rattle.reapi_messages.specs.Results.{◌>>=◌}
use Rattle.rpc.specs.declared.refusal.Refusal.{Refusal}
use Rattle.rpc.specs.declared.refusal.Refusal.TheVariants.{ExecutionIsOff, OffsetOutOfRange, QueueFull}
use Rattle.rpc.specs.declared.method.Method.{Method}
use Rattle.rpc.specs.declared.method.Method.TheVariants.{FindMissingBlobs, BatchUpdateBlobs, BatchReadBlobs, GetTree, GetActionResult, UpdateActionResult, Execute, WaitExecution, GetCapabilities, Read, Write, QueryWriteStatus}
use Rattle.cas_service.specs.Requests.{digest_value}
use Rattle.cas_service.specs.BatchRead.{digests_to_read, read_response, read_reply}
use Rattle.bytestream.specs.declared.reading.ReadAsked.{ReadAsked}
use Rattle.bytestream.specs.Reading.{SourceValue, read_asked, offset_check, until_of, range_asked, read_answer}
use Rattle.bytestream.specs.Writing as Writing
use Rattle.bytestream.specs.Writing.{OpenWriteValue, PartValue, WrittenValue, FirstAsked, first_asked, next_asked, first_part_answer, part_answer, reply_first, reply_next, unfinished_reply, write_reply}
use Rattle.uploads.specs.Uploads.{text_so_far}
use Rattle.instance_core.specs.declared.event.CallId.{CallId}
use Rattle.tree_calls.specs.Asking.{TreeAskedValue, tree_asked}
use Rattle.tree_calls.specs.GetTree.{texts_seen, get_tree_replies}
use Rattle.cas_service.specs.FindMissing.{find_missing_reply}
use Rattle.cas_service.specs.BatchUpdate.{batch_update_reply}
use Rattle.bytestream.specs.Querying.{query_reply}
use Rattle.instance_core.specs.Capabilities.{get_capabilities_reply}
use Rattle.tree_calls.specs.Results.{get_action_result_reply, update_action_result_reply}
use Rattle.tree_calls.specs.Pages.{IsNamedPage}
use Rattle.tree_calls.proofs.Named.{pages_named, result_complete, result_found}
use Rattle.tree_calls.specs.Listing.{tree_list}
use Rattle.instance_core.specs.Replies.{ReplyItemValue, says, gives, ends, ReplyValue, one_message, messages, range, answering, items_of}
use Rattle.instance_core.specs.Changes.{InstanceChange}
use Rattle.instance_core.specs.Methods.{answer_to, executed, execution_state, execute_answered, wait_answered}
use Rattle.execution.specs.Execute as Executor
use Rattle.execution.specs.Execute.{ExecuteAnswer, ExecuteDone, done, queued, by_job, by_looking, by_preparing, execute, look_in, looked_up, refused as refused_with}
use Rattle.execution.specs.Preparing.{FaultValue, PreparedValue, prepared, met, job_of}
use Rattle.job_queue.specs.declared.queue.TheConstants.{LAST_NUMBER, MOST_WAITING}
use Rattle.execution_messages.specs.Progress.{queued_text}
use Rattle.execution.specs.Orders.{ToldValue, told}
use Rattle.execution.specs.Steps.{StepValue}
use Rattle.execution.specs.Waiting as Waiting
use Rattle.execution.specs.Waiting.{WaitAnswer, has_told, wait}
use Rattle.execution.specs.Asking.{ExecuteAskedValue, execute_asked, name_asked}
use Rattle.instance_core.specs.Watching.{watchers, told_items, told_reply, replies_told, replies_to_watchers}
use Rattle.instance_core.proofs.NamedTexts.{all_append}
use Rattle.instance_core.specs.Writes.{write_state, first_changes, next_changes, first_outcome, next_outcome}
use Rattle.instance_core.specs.Answer.{head_answer, first_write_answer, next_write_answer, first_message_answer, answer_by_progress, message_answer, fault_by_progress, fault_answer, end_answer_by_progress, request_end_answer, steps_at}
use Rattle.instance_core.specs.Calls.{Calls, ProgressValue, waits, has, writes, watches, CallValue, CallEventValue, head, message, fault, end, cancel, tick, start_jobs, end_late_jobs, end_job, call_at}
use Rattle.instance_core.proofs.Sees.{all_named}
use Rattle.instance_core.specs.State.{seen, InstanceState, IsInstanceWithin}
use Rattle.instance_core.specs.NamedReplies.{Request, whole_request, request_at, bytes_from, IsNamedRange, IsNamedOrMissing, AreNamed, IsNamedBatch, IsNamedTreePage, IsStoredExecution, IsFailedExecution, IsNamedExecution, IsWriteReply, IsToldBy, IsSaidBeside, IsNamedItem, ServesNamed}

abbrev pub AreNamedItems : InstanceState → CallEventValue → Option Request → List ReplyItemValue → Type 0
AreNamedItems s event request items = AllByRecursion (IsNamedItem s event request) items

abbrev pub AreNamedReplies : InstanceState → CallEventValue → Option Request → List ReplyValue → Type 0
AreNamedReplies s event request replies = AllByRecursion (λ (r : ReplyValue). AreNamedItems s event request r.items) replies

-- ---- one batch

response_named : (s : InstanceState) (d : Digest) (o : Option (List ℕ)) → IsInstanceWithin s → visible_text d (seen s) ≡ o →
    IsNamedOrMissing d (read_response d o)
response_named s d (Some text) w is = inl (refl, named_by (seen s) d text (all_named s w) is)
response_named s d None w is = inr (refl, refl)

digest_beside : (d : Digest) (o : Option (List ℕ)) → (read_response d o).digest ≡ Some (digest_value d)
digest_beside d (Some text) = refl
digest_beside d None = refl

responses_named : (s : InstanceState) (ds : List Digest) → IsInstanceWithin s →
    AreNamed ds (map (λ d. read_response d (visible_text d (seen s))) ds)
responses_named s [] w = tt
responses_named s (d ∷ ds) w = (
  digest_beside d (visible_text d (seen s)),
  response_named s d
      (visible_text d (seen s)) w refl,
  responses_named s ds w,
)

batch_named : (s : InstanceState) (event : CallEventValue) (request : List ℕ) → IsInstanceWithin s →
    AreNamedItems s event (Some (record { method = BatchReadBlobs; message = request })) (items_of (answer_to BatchReadBlobs s request))
batch_named s event request w = go (digests_to_read s.name request) refl where
  go : (r : Result (List Digest) Refusal) → digests_to_read s.name request ≡ r
      → AreNamedItems s event (Some (record { method = BatchReadBlobs; message = request }))
      (items_of (answering one_message (r >>= λ digests. Ok (read_reply (seen s) digests))))
  go (Ok ds) is =
      let batch : IsNamedBatch s request (read_reply (seen s) ds) =
      record {
        asked = ds;
        asks = is;
        responses = map (λ d. read_response d (visible_text d (seen s))) ds;
        text = refl;
        named =
            responses_named s ds w;
      } in
      (tt, (record { batch = λ same. batch; tree = λ same. cc; result = λ same. cc; execute = λ same. cc }, (tt, tt)))
  go (Err refusal) is = (tt, tt)

-- ---- one range

-- what stands before the end of a text is no more than the limit
bytes_asked : (limit from : ℕ) (text : List ℕ) → from ≤ length text →
    take (until_of limit from (length text) - from) (drop from text) ≡ bytes_from from limit text
bytes_asked limit from text within = go (limit == 0) where
  size : length (drop from text) ≡ length text - from
  size = length-drop from text

  limited : (b : Bool) → nat_le (from + limit) (length text) ≡ b →
      take (min (length text) (from + limit) - from) (drop from text) ≡ take limit (drop from text)
  limited true is =
      let fits : from + limit ≤ length text = grind (arith, nat_tests) in
      let count : min (length text) (from + limit) - from ≡ limit = omega (arith, fits) in
      ap (λ (n : ℕ). take n (drop from text)) count
  limited false is =
      let past : length text < from + limit = grind (arith, nat_tests) in
      let count : min (length text) (from + limit) - from ≡ length text - from = omega (arith, past, within) in
      ap (λ (n : ℕ). take n (drop from text)) count ∙ take_all (length text - from) (drop from text) (omega (arith, size))
      ∙ sym (take_all limit (drop from text) (omega (arith, size, past)))

  go : (b : Bool) → take (cond b (length text) (min (length text) (from + limit)) - from) (drop from text)
      ≡ cond b (drop from text) (take limit (drop from text))
  go true = take_all (length text - from) (drop from text) (omega (arith, size))
  go false = limited (nat_le (from + limit) (length text)) refl

place_is : (offset : ℤ) (size from : ℕ) → offset_check offset size ≡ Ok from → (offset ≡ pos from) × (from ≤ size)
place_is (pos n) size from is = go (nat_le n size) refl is where
  go : (b : Bool) → nat_le n size ≡ b → cond b (Ok n) (Err OffsetOutOfRange) ≡ Ok from → (pos n ≡ pos from) × (from ≤ size)
  go true le is =
      let same : n ≡ from = cc in
      let small : n ≤ size = grind (arith, nat_tests) in
      (ap pos same, subst (λ (m : ℕ). m ≤ size) same small)
  go false le is = absurd (cc)
place_is (negsuc n) size from is = absurd (cc)

abbrev reading : List ℕ → Option Request
reading request = Some (record { method = Read; message = request })

range_named : (s : InstanceState) (event : CallEventValue) (request : List ℕ) (given : SourceValue) → IsNamedRange s request given →
    AreNamedItems s event (reading request) (items_of (Ok (range given)))
range_named s event request given named = (tt, go (nat_lt given.from given.until)) where
  go : (b : Bool) → AreNamedItems s event (reading request) (cond b (gives given ∷ []) [] ++ ends ∷ [])
  go true = ((refl, named), (tt, tt))
  go false = (tt, tt)

read_named : (s : InstanceState) (event : CallEventValue) (request : List ℕ) → IsInstanceWithin s →
    AreNamedItems s event (reading request) (items_of (answering range (read_answer s.name (seen s) request)))
read_named s event request w = asks (read_asked s.name request) refl where
  placed : (asked : ReadAsked) (text : List ℕ) (r : Result ℕ Refusal) → read_asked s.name request ≡ Ok asked →
      visible_text asked.digest (seen s) ≡ Some text → offset_check asked.offset (length text) ≡ r
      → AreNamedItems s event (reading request) (items_of
      (answering range (r >>= λ from. Ok (record {
        digest = asked.digest;
        text = text;
        from = from;
        until =
            until_of asked.limit from (length text);
      }))))
  placed asked text (Ok from) asks own at =
      let place = place_is asked.offset (length text) from at in
      range_named s event request (record {
        digest = asked.digest;
        text = text;
        from = from;
        until =
            until_of asked.limit from (length text);
      }) (record {
        asked = asked;
        asks = asks;
        same_digest = refl;
        own = own;
        named = named_by (seen s) asked.digest text (all_named s w) own;
        offset = place.0;
        bytes = bytes_asked asked.limit from text place.1;
      })
  placed asked text (Err refusal) asks own at = (tt, tt)

  found : (asked : ReadAsked) (o : Option (List ℕ)) → read_asked s.name request ≡ Ok asked → visible_text asked.digest (seen s) ≡ o →
      AreNamedItems s event (reading request) (items_of (answering range (range_asked asked o)))
  found asked None asks own = (tt, tt)
  found asked (Some text) asks own = placed asked text (offset_check asked.offset (length text)) asks own refl

  asks : (r : Result ReadAsked Refusal) → read_asked s.name request ≡ r →
      AreNamedItems s event (reading request) (items_of
      (answering range (r >>= λ asked. range_asked asked (visible_text asked.digest (seen s)))))
  asks (Ok asked) is = found asked (visible_text asked.digest (seen s)) is refl
  asks (Err refusal) is = (tt, tt)

-- ---- a whole request

other_named : (s : InstanceState) (event : CallEventValue) (method : Method) (request : List ℕ) (r : Result (List ℕ) Refusal) →
    (method ≡ BatchReadBlobs → ⊥) → (method ≡ GetTree → ⊥) → (method ≡ GetActionResult → ⊥) → (method ≡ Execute → ⊥)
    → AreNamedItems s event (Some (record { method = method; message = request })) (items_of (answering one_message r))
other_named s event method request (Ok reply) unbatched untreed unkept unexecuted = (
  tt,
  (
    record {
      batch = λ same. absurd (unbatched same);
      tree = λ same. absurd (untreed same);
      result = λ same. absurd (unkept same);
      execute = λ same. absurd (unexecuted same);
    },
    (tt, tt),
  ),
)
other_named s event method request (Err refusal) unbatched untreed unkept unexecuted = (tt, tt)

result_named : (s : InstanceState) (event : CallEventValue) (request : List ℕ) →
    AreNamedItems s event (Some (record { method = GetActionResult; message = request })) (items_of (answer_to GetActionResult s request))
result_named s event request = go (get_action_result_reply s.name (seen s) s.results request) refl where
  go : (r : Result (List ℕ) Refusal) → get_action_result_reply s.name (seen s) s.results request ≡ r →
      AreNamedItems s event (Some (record { method = GetActionResult; message = request })) (items_of (answering one_message r))
  go (Ok reply) is = (
    tt,
    (
      record {
        batch = λ same. cc;
        tree = λ same. cc;
        result =
            λ same. result_complete s.name (seen s) s.results request reply is;
        execute = λ same. cc;
      },
      (tt, tt),
    ),
  )
  go (Err refusal) is = (tt, tt)

abbrev walking : List ℕ → Option Request
walking request = Some (record { method = GetTree; message = request })

pages_said : (s : InstanceState) (event : CallEventValue) (request : List ℕ) (asked : TreeAskedValue) (listed : List Digest) →
    tree_asked s.name request ≡ Ok asked → tree_list (texts_seen (seen s)) asked.root ≡ Ok listed
    → (pages : List (List ℕ)) → AllByRecursion (IsNamedPage listed) pages →
    AreNamedItems s event (walking request) (map says pages ++ ends ∷ [])
pages_said s event request asked listed asks lists [] named = (tt, tt)
pages_said s event request asked listed asks lists (page ∷ pages) named =
    let one : IsNamedTreePage s request page = record { asked = asked; asks = asks; listed = listed; lists = lists; page = named.0 } in (
      record { batch = λ same. cc; tree = λ same. one; result = λ same. cc; execute = λ same. cc },
      pages_said s event request asked listed
          asks lists pages named.1,
    )

tree_named : (s : InstanceState) (event : CallEventValue) (request : List ℕ) → IsInstanceWithin s →
    AreNamedItems s event (walking request) (items_of (answering messages (get_tree_replies s.name (seen s) request)))
tree_named s event request w = go (get_tree_replies s.name (seen s) request) refl where
  go : (r : Result (List (List ℕ)) Refusal) → get_tree_replies s.name (seen s) request ≡ r →
      AreNamedItems s event (walking request) (items_of (answering messages r))
  go (Ok pages) is =
      let named = pages_named s.name (seen s) request pages (all_named s w) is in
      (tt, pages_said s event request named.asked named.listed named.is_asked named.is_listed pages named.pages)
  go (Err refusal) is = (tt, tt)

-- ---- executions

said_named : (s : InstanceState) (event : CallEventValue) (method : Method) (request bytes : List ℕ) → (method ≡ BatchReadBlobs → ⊥) →
    (method ≡ GetTree → ⊥) → (method ≡ GetActionResult → ⊥) → (method ≡ Execute → ⊥) →
    IsNamedItem s event (Some (record { method = method; message = request })) (says bytes)
said_named s event method request bytes unbatched untreed unkept unexecuted =
    record {
      batch = λ same. absurd (unbatched same);
      tree = λ same. absurd (untreed same);
      result = λ same. absurd (unkept same);
      execute =
          λ same. absurd (unexecuted same);
    }

-- each Operation that is answered is so
abbrev Tells : (List ℕ → Type 0) → Result ExecuteAnswer Refusal → Type 0
Tells P (Ok (done operation)) = P operation
Tells P (Ok (queued n operation)) = P operation
Tells P (Err refusal) = Unit {0}

abbrev IsToldOf : InstanceState → Digest → List ℕ → Type 0
IsToldOf s d bytes = IsStoredExecution s d bytes ⊎ (IsFailedExecution s.jobs.next d bytes ⊎ (bytes ≡ queued_text s.jobs.next d))

abbrev TellsNamed : InstanceState → Digest → ExecuteDone → Type 0
TellsNamed s d x = Tells (IsToldOf s d) x.answer

job_told : (s : InstanceState) (d : Digest) (p : PreparedValue) → TellsNamed s d (by_job (execution_state s) d p)
job_told s d p = go (nat_le MOST_WAITING (length s.jobs.waiting)) where
  go : (b : Bool) → TellsNamed s d (cond b (refused_with QueueFull)
      (record {
        answer = Ok (queued s.jobs.next (queued_text s.jobs.next d));
        changes =
            map Executor.Uses (met d p) ++ Executor.Pushes (job_of (look_in (execution_state s)) d p) ∷ [];
      }))
  go true = tt
  go false = inr (inr refl)

found_told : (s : InstanceState) (skip : Bool) (d : Digest) (text : List ℕ) →
    looked_up skip (look_in (execution_state s)) d s.results ≡ Some text → TellsNamed s d (by_looking (execution_state s) d (Some text))
found_told s true d text is = absurd (cc)
found_told s false d text is =
    let found = result_found (texts_seen (seen s)) d s.results text is in
    inl (record { result = text; is_stored = found.0; complete = found.1; told = refl })

looking_told : (s : InstanceState) (skip : Bool) (d : Digest) (o : Option (List ℕ)) →
    looked_up skip (look_in (execution_state s)) d s.results ≡ o → TellsNamed s d (by_looking (execution_state s) d o)
looking_told s skip d (Some text) is = found_told s skip d text is
looking_told s skip d None is = go (prepared (look_in (execution_state s)) d) where
  go : (r : Result PreparedValue FaultValue) → TellsNamed s d (by_preparing (execution_state s) d r)
  go (Ok p) = job_told s d p
  go (Err f) = inr (inl (record { fault = f.fault; missing = f.missing; told = refl }))

execution_told : (s : InstanceState) (skip : Bool) (d : Digest) → TellsNamed s d (execute s.slots (execution_state s) skip d)
execution_told s skip d = off (nat_eq s.slots 0) (nat_lt LAST_NUMBER s.jobs.next) where
  off : (a b : Bool) → TellsNamed s d (cond a (refused_with ExecutionIsOff)
      (cond b (refused_with QueueFull) (by_looking (execution_state s) d (looked_up skip (look_in (execution_state s)) d s.results))))
  off true b = tt
  off false true = tt
  off false false = looking_told s skip d (looked_up skip (look_in (execution_state s)) d s.results) refl

execute_named : (s : InstanceState) (event : CallEventValue) (request : List ℕ) →
    AreNamedItems s event (Some (record { method = Execute; message = request })) (items_of (answer_to Execute s request))
execute_named s event request = go (execute_asked s.name request) refl where
  said : (bytes : List ℕ) → IsNamedExecution s request bytes →
      IsNamedItem s event (Some (record { method = Execute; message = request })) (says bytes)
  said bytes named = record { batch = λ same. cc; tree = λ same. cc; result = λ same. cc; execute = λ same. named }

  answered : (asked : ExecuteAskedValue) → execute_asked s.name request ≡ Ok asked → (x : ExecuteDone) → TellsNamed s asked.action x →
      (r : Result ExecuteAnswer Refusal) → x.answer ≡ r →
      AreNamedItems s event (Some (record { method = Execute; message = request })) (items_of (answering execute_answered r))
  answered asked is x named (Ok (done operation)) here =
      (tt, (said operation (record { asked = asked; asks = is; told = subst (Tells (IsToldOf s asked.action)) here named }), (tt, tt)))
  answered asked is x named (Ok (queued n operation)) here =
      (tt, (said operation (record { asked = asked; asks = is; told = subst (Tells (IsToldOf s asked.action)) here named }), tt))
  answered asked is x named (Err refusal) here = (tt, tt)

  go : (r : Result ExecuteAskedValue Refusal) → execute_asked s.name request ≡ r →
      AreNamedItems s event (Some (record { method = Execute; message = request }))
      (items_of (r >>= λ asked. answering execute_answered (executed s asked).answer))
  go (Ok asked) is = answered asked is (executed s asked) (execution_told s asked.skips_lookup asked.action) (executed s asked).answer refl
  go (Err refusal) is = (tt, tt)

wait_named : (s : InstanceState) (event : CallEventValue) (request : List ℕ) →
    AreNamedItems s event (Some (record { method = WaitExecution; message = request })) (items_of (answer_to WaitExecution s request))
wait_named s event request = go (name_asked request) where
  said : (bytes : List ℕ) → IsNamedItem s event (Some (record { method = WaitExecution; message = request })) (says bytes)
  said bytes = said_named s event WaitExecution request bytes (λ same. cc) (λ same. cc) (λ same. cc) (λ same. cc)

  answered : (r : Result WaitAnswer Refusal) → AreNamedItems s event (Some (record { method = WaitExecution; message = request }))
      (items_of (answering wait_answered r))
  answered (Ok (has_told operation)) = (tt, (said operation, (tt, tt)))
  answered (Ok (Waiting.watches n operation)) = (tt, (said operation, tt))
  answered (Err refusal) = (tt, tt)

  go : (r : Result (List ℕ) Refusal) → AreNamedItems s event (Some (record { method = WaitExecution; message = request }))
      (items_of (r >>= λ name. answering wait_answered (wait name s.jobs)))
  go (Ok name) = answered (wait name s.jobs)
  go (Err refusal) = (tt, tt)

-- ---- each method

method_named : (s : InstanceState) (event : CallEventValue) (method : Method) (request : List ℕ) → IsInstanceWithin s →
    AreNamedItems s event (Some (record { method = method; message = request })) (items_of (answer_to method s request))
method_named s event BatchReadBlobs request w = batch_named s event request w
method_named s event Read request w = read_named s event request w
method_named s event FindMissingBlobs request w =
    other_named s event FindMissingBlobs request (find_missing_reply s.name (seen s) request) (λ same. cc) (λ same. cc) (λ same. cc)
    (λ same. cc)
method_named s event BatchUpdateBlobs request w =
    other_named s event BatchUpdateBlobs request (batch_update_reply s.name s.quota request) (λ same. cc) (λ same. cc) (λ same. cc)
    (λ same. cc)
method_named s event GetTree request w = tree_named s event request w
method_named s event GetActionResult request w = result_named s event request
method_named s event UpdateActionResult request w =
    other_named s event UpdateActionResult request (update_action_result_reply s.name request) (λ same. cc) (λ same. cc) (λ same. cc)
    (λ same. cc)
method_named s event Execute request w = execute_named s event request
method_named s event WaitExecution request w = wait_named s event request
method_named s event GetCapabilities request w =
    other_named s event GetCapabilities request (get_capabilities_reply s.name s.slots request) (λ same. cc) (λ same. cc) (λ same. cc)
    (λ same. cc)
method_named s event Write request w = (tt, tt)
method_named s event QueryWriteStatus request w =
    other_named s event QueryWriteStatus request (query_reply s.name s.visible s.uploads request) (λ same. cc) (λ same. cc) (λ same. cc)
    (λ same. cc)

-- ---- a Write is answered how much is committed

first_says : (s : InstanceState) (part reply : List ℕ) → first_outcome s part ≡ Ok (Writing.Answered reply) → IsWriteReply reply
first_says s part reply is = go (first_asked s.name part) is where
  done : (asked : FirstAsked) (complete : Bool) → reply_first asked complete ≡ Writing.Answered reply → IsWriteReply reply
  done asked true is =
      let same : write_reply asked.part.key.digest.size ≡ reply = cc in
      (asked.part.key.digest.size, sym same)
  done asked false is = absurd (cc)

  answered : (asked : FirstAsked) (seen_now : Bool) (c : Result Bool Refusal) →
      cond seen_now (Ok (reply_first asked true)) (c >>= λ complete. Ok (reply_first asked complete)) ≡ Ok (Writing.Answered reply) →
      IsWriteReply reply
  answered asked true c is = done asked true (cc)
  answered asked false (Ok complete) is = done asked complete (cc)
  answered asked false (Err e) is = absurd (cc)

  go : (r : Result FirstAsked Refusal) → (r >>= λ asked. first_part_answer s.quota s.moment asked (write_state s))
      ≡ Ok (Writing.Answered reply) → IsWriteReply reply
  go (Ok asked) is = answered asked (is_some (visible_text asked.part.key.digest s.visible))
      (part_answer true s.quota s.moment asked.part s.uploads) is
  go (Err e) is = absurd (cc)

next_says : (s : InstanceState) (write : OpenWriteValue) (text reply : List ℕ) → next_outcome s write text ≡ Ok (Some reply) →
    IsWriteReply reply
next_says s write text reply is = go (next_asked write text) is where
  done : (part : PartValue) (complete : Bool) → reply_next part complete ≡ Some reply → IsWriteReply reply
  done part true is =
      let same : write_reply part.key.digest.size ≡ reply = cc in
      (part.key.digest.size, sym same)
  done part false is = absurd (cc)

  answered : (part : PartValue) (c : Result Bool Refusal) → (c >>= λ complete. Ok (reply_next part complete)) ≡ Ok (Some reply) →
      IsWriteReply reply
  answered part (Ok complete) is = done part complete (cc)
  answered part (Err e) is = absurd (cc)

  go : (r : Result PartValue Refusal) → (r >>= λ part. part_answer false s.quota s.moment part s.uploads >>= λ complete. Ok
      (reply_next part complete)) ≡ Ok (Some reply) → IsWriteReply reply
  go (Ok part) is = answered part (part_answer false s.quota s.moment part s.uploads) is
  go (Err e) is = absurd (cc)

-- ---- the other events give no range

first_named : (s : InstanceState) (id : CallId) (method : Method) (part : List ℕ) (changes : List InstanceChange)
    (r : Result WrittenValue Refusal) → first_outcome s part ≡ r →
    AreNamedReplies s (message id part) None (first_write_answer id method changes r).replies
first_named s id method part changes (Ok (Writing.Goes write)) is = tt
first_named s id method part changes (Ok (Writing.Answered reply)) is = ((tt, (first_says s part reply is, (tt, tt))), tt)
first_named s id method part changes (Err refusal) is = ((tt, tt), tt)

next_named : (s : InstanceState) (id : CallId) (write : OpenWriteValue) (part : List ℕ) (changes : List InstanceChange)
    (r : Result (Option (List ℕ)) Refusal) → next_outcome s write part ≡ r →
    AreNamedReplies s (message id part) None (next_write_answer id changes r).replies
next_named s id write part changes (Ok None) is = tt
next_named s id write part changes (Ok (Some reply)) is = ((tt, (next_says s write part reply is, (tt, tt))), tt)
next_named s id write part changes (Err refusal) is = ((tt, tt), tt)

with_first_named : (s : InstanceState) (id : CallId) (method : Method) (bytes : List ℕ) →
    AreNamedReplies s (message id bytes) None (first_message_answer s id method bytes).replies
with_first_named s id Write bytes = first_named s id Write bytes (first_changes s bytes) (first_outcome s bytes) refl
with_first_named s id method bytes = tt

with_named : (s : InstanceState) (id : CallId) (method : Method) (bytes : List ℕ) (p : ProgressValue) →
    AreNamedReplies s (message id bytes) None (answer_by_progress s id method bytes p).replies
with_named s id method bytes waits = with_first_named s id method bytes
with_named s id method bytes (has first) = ((tt, tt), tt)
with_named s id method bytes (writes write) = next_named s id write bytes (next_changes s write bytes) (next_outcome s write bytes) refl
with_named s id method bytes (watches n) = tt

message_named : (s : InstanceState) (id : CallId) (bytes : List ℕ) (o : Option CallValue) →
    AreNamedReplies s (message id bytes) None (message_answer s id bytes o).replies
message_named s id bytes None = tt
message_named s id bytes (Some call) = with_named s id call.method bytes call.progress

head_named : (s : InstanceState) (id : CallId) (method : Method) (o : Option CallValue) →
    AreNamedReplies s (head id method) None (head_answer id method o).replies
head_named s id method (Some call) = tt
head_named s id method None = tt

fault_by : (s : InstanceState) (id : CallId) (refusal : Refusal) (p : ProgressValue) →
    AreNamedReplies s (fault id refusal) None (fault_by_progress id refusal p).replies
fault_by s id refusal (watches n) = tt
fault_by s id refusal waits = ((tt, tt), tt)
fault_by s id refusal (has first) = ((tt, tt), tt)
fault_by s id refusal (writes write) = ((tt, tt), tt)

fault_named : (s : InstanceState) (id : CallId) (refusal : Refusal) (o : Option CallValue) →
    AreNamedReplies s (fault id refusal) None (fault_answer id refusal o).replies
fault_named s id refusal None = tt
fault_named s id refusal (Some call) = fault_by s id refusal call.progress

request_named : (s : InstanceState) (id : CallId) (method : Method) (p : ProgressValue) → IsInstanceWithin s →
    AreNamedReplies s (end id) (whole_request method p) (end_answer_by_progress s id method p).replies
request_named s id method waits w = ((tt, tt), tt)
request_named s id method (has request) w = (method_named s (end id) method request w, tt)
request_named s id method (writes write) w =
    let said : IsWriteReply (unfinished_reply write.key s.uploads) = (length (text_so_far write.key s.uploads), refl) in
    ((tt, (said, (tt, tt))), tt)
request_named s id method (watches n) w = tt

end_named : (s : InstanceState) (id : CallId) (o : Option CallValue) → IsInstanceWithin s → call_at id s.calls ≡ o →
    AreNamedReplies s (end id) (request_at s (end id)) (request_end_answer s id o).replies
end_named s id None w is = tt
end_named s id (Some call) w is = rw is (request_named s id call.method call.progress w)

-- ---- what those are told who watch

abbrev IsSaid : InstanceState → CallEventValue → StepValue → Type 0
IsSaid s event step = IsSaidBeside s event (told step).operation

told_more : (step : StepValue) (steps others : List StepValue) →
    AllByRecursion (λ (x : StepValue). IsToldBy steps (told x).operation) others →
    AllByRecursion (λ (x : StepValue). IsToldBy (step ∷ steps) (told x).operation) others
told_more step steps [] h = tt
told_more step steps (x ∷ others) h = (inr h.0, told_more step steps others h.1)

each_told : (steps : List StepValue) → AllByRecursion (λ (x : StepValue). IsToldBy steps (told x).operation) steps
each_told [] = tt
each_told (step ∷ steps) = (inl refl, told_more step steps steps (each_told steps))

told_items_named : (s : InstanceState) (event : CallEventValue) (t : ToldValue) → IsSaidBeside s event t.operation →
    AreNamedItems s event None (told_items t)
told_items_named s event t said = go t.is_last where
  go : (b : Bool) → AreNamedItems s event None (cond b (says t.operation ∷ ends ∷ []) (says t.operation ∷ []))
  go true = (said, (tt, tt))
  go false = (said, tt)

each_told_named : (s : InstanceState) (event : CallEventValue) (t : ToldValue) (ids : List CallId) → IsSaidBeside s event t.operation →
    AreNamedReplies s event None (map (told_reply t) ids)
each_told_named s event t [] said = tt
each_told_named s event t (id ∷ ids) said = (told_items_named s event t said, each_told_named s event t ids said)

told_named : (s : InstanceState) (event : CallEventValue) (calls : Calls) (steps : List StepValue) → AllByRecursion (IsSaid s event) steps →
    AreNamedReplies s event None (replies_to_watchers calls steps)
told_named s event calls [] said = tt
told_named s event calls (step ∷ steps) said =
    all_append (λ (r : ReplyValue). AreNamedItems s event None r.items) (replies_told calls (told step)) (replies_to_watchers calls steps)
    (each_told_named s event (told step) (watchers (told step).number calls) said.0) (told_named s event calls steps said.1)

pub serves_named : (s : InstanceState) (event : CallEventValue) → IsInstanceWithin s → ServesNamed (record { state = s; event = event })
serves_named s (end id) w = end_named s id (call_at id s.calls) w refl
serves_named s (head id method) w = head_named s id method (call_at id s.calls)
serves_named s (message id bytes) w = message_named s id bytes (call_at id s.calls)
serves_named s (fault id refusal) w = fault_named s id refusal (call_at id s.calls)
serves_named s (cancel id) w = tt
serves_named s tick w = tt
serves_named s start_jobs w = told_named s start_jobs s.calls (steps_at s start_jobs) (each_told (steps_at s start_jobs))
serves_named s end_late_jobs w = told_named s end_late_jobs s.calls (steps_at s end_late_jobs) (each_told (steps_at s end_late_jobs))
serves_named s (end_job n outcome) w = told_named s (end_job n outcome) s.calls (steps_at s (end_job n outcome))
    (each_told (steps_at s (end_job n outcome)))
