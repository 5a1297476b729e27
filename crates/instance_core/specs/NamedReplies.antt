-- What is served under a digest is what the digest says: its hash, by the function of the digest,
-- and its length; and a stored result of an action that is served is complete.
use Rattle.std.specs.Prelude.{◌≡◌, ◌⊎◌, ◌-◌, ◌==◌, ℕ, pos, if◌then◌else◌, List, [], ◌∷◌, take, drop, Option, Some, None, Ok}
use Rattle.std.specs.List.{AllByRecursion}
use Rattle.std.specs.Map.{lookup}
use Rattle.std.specs.Option.{option_map_or}
use Rattle.digest.specs.declared.Digest.{Digest}
use Rattle.digest.specs.Naming.{Names, same_digest}
use Rattle.instance_view.specs.Visible.{visible_text}
use Rattle.reapi_messages.specs.Batches.{ReadBlobResponseValue, batch_read_blobs_response_records}
use Rattle.reapi_messages.specs.Parts.{text_for}
use Rattle.cas_service.specs.BatchRead.{digests_to_read}
use Rattle.cas_service.specs.Requests.{digest_value}
use Rattle.cas_service.specs.Statuses.{ok_status, refused_status}
use Rattle.rpc.specs.declared.refusal.Refusal.TheVariants.{BlobNotFound}
use Rattle.bytestream.specs.declared.reading.ReadAsked.{ReadAsked}
use Rattle.bytestream.specs.Reading.{SourceValue, read_asked}
use Rattle.bytestream.specs.Writing.{write_reply}
use Rattle.execution.specs.Orders.{told}
use Rattle.execution.specs.Steps.{StepValue}
use Rattle.rpc.specs.declared.method.Method.{Method}
use Rattle.tree_calls.specs.Complete.{IsComplete, IsCompleteReply}
use Rattle.tree_calls.specs.Pages.{IsNamedPage}
use Rattle.tree_calls.specs.Asking.{TreeAskedValue, tree_asked}
use Rattle.tree_calls.specs.GetTree.{texts_seen}
use Rattle.execution_messages.specs.declared.fault.Fault.{Fault}
use Rattle.execution_messages.specs.Progress.{completed_text, fails, finds, queued_text}
use Rattle.execution.specs.Asking.{ExecuteAskedValue, execute_asked}
use Rattle.tree_calls.specs.Listing.{tree_list}
use Rattle.rpc.specs.declared.method.Method.TheVariants.{BatchReadBlobs, Execute, GetTree, GetActionResult, Read}
use Rattle.instance_core.specs.Calls.{ProgressValue, waits, has, writes, watches, CallEventValue, head, fault, end, cancel, tick, start_jobs, end_late_jobs, end_job, call_at}
use Rattle.instance_core.specs.Calls as Comes
use Rattle.instance_core.specs.Replies.{ReplyItemValue, begins, says, gives, ends, refuses, ReplyValue}
use Rattle.instance_core.specs.Answer.{answer, steps_at}
use Rattle.instance_core.specs.State.{InstanceState, seen}

-- an event of a call, and the state in which the instance answers to it
pub record AnsweredEvent : Type 0 where
  pub state : InstanceState
  pub event : CallEventValue

-- what is given to streams for it
abbrev pub replies_of : AnsweredEvent → List ReplyValue
replies_of a = (answer a.state a.event).replies

-- ---- the request that is answered

-- a whole request of one message
pub record Request : Type 0 where
  pub method : Method
  pub message : List ℕ

abbrev pub whole_request : Method → ProgressValue → Option Request
whole_request method waits = None
whole_request method (has message) = Some (record { method = method; message = message })
whole_request method (writes write) = None
whole_request method (watches n) = None

-- the request of a call that this event ends
abbrev pub request_at : InstanceState → CallEventValue → Option Request
request_at s (end id) =
    option_map_or (λ call. whole_request call.method call.progress) (call_at id s.calls) None
request_at s _ = None

-- ---- Read (bytestream.proto)

-- the bytes of a text from an offset on, and no more than a limit; the limit 0 is none
abbrev pub bytes_from : ℕ → ℕ → List ℕ → List ℕ
bytes_from offset limit text =
    if limit == 0 then drop offset text else take limit (drop offset text)

-- a range is of the text that the instance sees under the digest in the resource name, and that
-- the digest names; its bytes are those from read_offset on, at most read_limit of them
pub record IsNamedRange (s : InstanceState) (message : List ℕ) (given : SourceValue) : Type 0 where
  pub asked : ReadAsked
  pub asks : read_asked s.name message ≡ Ok asked
  pub same_digest : given.digest ≡ asked.digest
  pub own : visible_text asked.digest (seen s) ≡ Some given.text
  pub named : Names asked.digest given.text
  pub offset : asked.offset ≡ pos given.from
  pub bytes : take (given.until - given.from) (drop given.from given.text)
      ≡ bytes_from given.from asked.limit given.text

-- ---- BatchReadBlobs (remote_execution.proto)

-- data with status OK that are what the digest says, or no data with status NOT_FOUND
abbrev pub IsNamedOrMissing : Digest → ReadBlobResponseValue → Type 0
IsNamedOrMissing d r =
    ((r.status ≡ Some ok_status) × Names d r.content)
    ⊎ ((r.status ≡ Some (refused_status BlobNotFound)) × (r.content ≡ []))

-- a response for each digest that was asked for, in order: what that digest says, or nothing
abbrev pub AreNamed : List Digest → List ReadBlobResponseValue → Type 0
AreNamed [] [] = Unit {0}
AreNamed (d ∷ ds) (r ∷ rs) =
    (r.digest ≡ Some (digest_value d)) × IsNamedOrMissing d r × AreNamed ds rs
AreNamed ds rs = ⊥

-- the bytes are a BatchReadBlobsResponse of such responses
pub record IsNamedBatch (s : InstanceState) (message bytes : List ℕ) : Type 0 where
  pub asked : List Digest
  pub asks : digests_to_read s.name message ≡ Ok asked
  pub responses : List ReadBlobResponseValue
  pub text : bytes ≡ text_for batch_read_blobs_response_records (record { responses = responses })
  pub named : AreNamed asked responses

-- ---- GetTree (remote_execution.proto)

-- the bytes are a page of the tree of the root that was asked for, whose directories are what
-- digests of the tree's list name
pub record IsNamedTreePage (s : InstanceState) (message bytes : List ℕ) : Type 0 where
  pub asked : TreeAskedValue
  pub asks : tree_asked s.name message ≡ Ok asked
  pub listed : List Digest
  pub lists : tree_list (texts_seen (seen s)) asked.root ≡ Ok listed
  pub page : IsNamedPage listed bytes

-- ---- Execute (remote_execution.proto)

-- the Operation of an execution that is done, with the result that the instance itself has of the
-- action, of which each blob is there
pub record IsStoredExecution (s : InstanceState) (action : Digest) (bytes : List ℕ) : Type 0 where
  pub result : List ℕ
  pub is_stored : lookup (same_digest action) s.results ≡ Some result
  pub complete : IsComplete (texts_seen (seen s)) result
  pub told : bytes ≡ completed_text s.jobs.next action (finds result)

-- the Operation of one that cannot begin
pub record IsFailedExecution (n : ℕ) (action : Digest) (bytes : List ℕ) : Type 0 where
  pub fault : Fault
  pub missing : List Digest
  pub told : bytes ≡ completed_text n action (fails fault missing)

-- a stored result, or no result: the execution cannot begin, or waits
pub record IsNamedExecution (s : InstanceState) (message bytes : List ℕ) : Type 0 where
  pub asked : ExecuteAskedValue
  pub asks : execute_asked s.name message ≡ Ok asked
  pub told : IsStoredExecution s asked.action bytes
      ⊎ (IsFailedExecution s.jobs.next asked.action bytes
      ⊎ (bytes ≡ queued_text s.jobs.next asked.action))

-- ---- each blob that is served

-- a message that answers a request: the blobs of a batch and the directories of a tree are named,
-- and a result is complete, also where an execution is answered with it
pub record IsNamedMessage (s : InstanceState) (request : Request) (bytes : List ℕ) : Type 0 where
  pub batch : request.method ≡ BatchReadBlobs → IsNamedBatch s request.message bytes
  pub tree : request.method ≡ GetTree → IsNamedTreePage s request.message bytes
  pub result : request.method ≡ GetActionResult →
      IsCompleteReply s.name (seen s) s.results request.message bytes
  pub execute : request.method ≡ Execute → IsNamedExecution s request.message bytes

-- a WriteResponse, which tells how much of an upload is there (bytestream.proto)
abbrev pub IsWriteReply : List ℕ → Type 0
IsWriteReply bytes = (committed : ℕ) × (bytes ≡ write_reply committed)

-- the Operation that one of these steps tells of a job
abbrev pub IsToldBy : List StepValue → List ℕ → Type 0
IsToldBy [] bytes = ⊥
IsToldBy (step ∷ steps) bytes = (bytes ≡ (told step).operation) ⊎ IsToldBy steps bytes

-- a message that answers no whole request: a Write is answered at one of its messages, or at its
-- end, and those who watch jobs are told of their steps; nothing else is said
abbrev pub IsSaidBeside : InstanceState → CallEventValue → List ℕ → Type 0
IsSaidBeside s (Comes.message id part) bytes = IsWriteReply bytes
IsSaidBeside s (end id) bytes = IsWriteReply bytes
IsSaidBeside s start_jobs bytes = IsToldBy (steps_at s start_jobs) bytes
IsSaidBeside s end_late_jobs bytes = IsToldBy (steps_at s end_late_jobs) bytes
IsSaidBeside s (end_job n outcome) bytes = IsToldBy (steps_at s (end_job n outcome)) bytes
IsSaidBeside s (head id method) bytes = ⊥
IsSaidBeside s (fault id refusal) bytes = ⊥
IsSaidBeside s (cancel id) bytes = ⊥
IsSaidBeside s tick bytes = ⊥

-- a range is given to a Read alone, and is named by the digest that it asks for
abbrev pub IsNamedItem : InstanceState → CallEventValue → Option Request → ReplyItemValue → Type 0
IsNamedItem s event (Some request) (gives given) =
    (request.method ≡ Read) × IsNamedRange s request.message given
IsNamedItem s event None (gives given) = ⊥
IsNamedItem s event (Some request) (says bytes) = IsNamedMessage s request bytes
IsNamedItem s event None (says bytes) = IsSaidBeside s event bytes
IsNamedItem s event request begins = Unit {0}
IsNamedItem s event request ends = Unit {0}
IsNamedItem s event request (refuses refusal) = Unit {0}

abbrev pub ServesNamed : AnsweredEvent → Type 0
ServesNamed a =
    AllByRecursion
    (λ r. AllByRecursion (IsNamedItem a.state a.event (request_at a.state a.event)) r.items)
    (replies_of a)
