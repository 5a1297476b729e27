-- How an event may change what an instance keeps: its blobs, its results, its unfinished uploads
-- and its jobs. To be read from `IsByRule` up, which has a case for each kind of change and says
-- which rule it follows: of the event's own changes, and of the state that the event met. A blob is
-- lost to an admission alone (Room.antt says to which), and a result to a store alone, of the result
-- that the event brings; an upload is
-- lost at its end, to a piece that would bring it past its size, or by its age; and a job that
-- waits starts, and one that runs ends, and neither is lost otherwise.
use Rattle.std.specs.Prelude.{◌≡◌, ◌⊎◌, ℕ, ◌+◌, ◌<◌, true, false, List, length, Some, Ok}
use Rattle.std.specs.List.{AllByRecursion}
use Rattle.rpc.specs.declared.method.Method.{Method}
use Rattle.rpc.specs.declared.method.Method.TheVariants as Called
use Rattle.digest.specs.declared.Digest.{Digest}
use Rattle.digest.specs.Naming.{Names, same_digest, is_empty_digest}
use Rattle.instance_view.specs.Visible.{Blob, with_match_first}
use Rattle.quota_evict.specs.Admission.{visible_after_admission}
use Rattle.uploads.specs.Uploads.{UploadList, without_upload, text_so_far}
use Rattle.uploads.specs.Writing.{after_piece}
use Rattle.action_cache.specs.Results.{results_after_store}
use Rattle.bytestream.specs.Writing.{OpenWriteValue, PartValue, WriteState, first_asked, next_asked}
use Rattle.run_calls.specs.Outcomes.{OutcomeValue}
use Rattle.job_queue.specs.Jobs.{running_job}
use Rattle.execution.specs.Asking.{ExecuteAskedValue, execute_asked}
use Rattle.execution.specs.Job.{JobValue}
use Rattle.tree_calls.specs.Asking.{ResultSentValue, action_asked, result_sent}
use Rattle.instance_core.specs.declared.event.CallId.{CallId}
use Rattle.instance_core.specs.Answer.{ending_at, steps_at}
use Rattle.instance_core.specs.Calls.{Calls, CallValue, has, writes, CallEventValue, head, fault, end, cancel, tick, start_jobs, end_late_jobs, end_job, call_at}
use Rattle.instance_core.specs.Calls as Comes
use Rattle.instance_core.specs.Changes.{InstanceChange, Text, Goes, Ends, Wrote, Keeps, Expires, Does, Pushes, Settles}
use Rattle.instance_core.specs.Named.{StoresNamedText}
use Rattle.instance_core.specs.State.{InstanceState, LimitsValue}
use Rattle.instance_core.specs.Writes.{write_state}

-- ---- uploads

-- the first message of a Write brings this piece
pub record IsFirstPiece (own bytes : List ℕ) (part : PartValue) : Type 0 where
  pub name : List ℕ
  pub asks : first_asked own bytes ≡ Ok (record { name = name; part = part })

-- a later one does, of a call that is in course
pub record IsNextPiece (calls : Calls) (id : CallId) (bytes : List ℕ) (part : PartValue) : Type 0
  where
    pub call : CallValue
    pub in_course : call_at id calls ≡ Some call
    pub write : OpenWriteValue
    pub is_written : call.progress ≡ writes write
    pub asks : next_asked write bytes ≡ Ok part

-- the event brings this piece of an upload
abbrev pub BringsPiece : InstanceState → CallEventValue → PartValue → Type 0
BringsPiece s (Comes.message id bytes) part =
    IsFirstPiece s.name bytes part ⊎ IsNextPiece s.calls id bytes part
BringsPiece s (head id method) part = ⊥
BringsPiece s (fault id refusal) part = ⊥
BringsPiece s (end id) part = ⊥
BringsPiece s (cancel id) part = ⊥
BringsPiece s tick part = ⊥
BringsPiece s start_jobs part = ⊥
BringsPiece s end_late_jobs part = ⊥
BringsPiece s (end_job n outcome) part = ⊥

-- the uploads with a piece that is taken: behind the text so far, or an upload begins with it
abbrev pub uploads_with : PartValue → InstanceState → UploadList
uploads_with part s = after_piece s.moment part.key part.piece (Ok tt) s.uploads

-- the text of its upload with it
abbrev pub text_with : PartValue → InstanceState → List ℕ
text_with part s = text_so_far part.key (uploads_with part s)

-- what a message of a Write leaves of the texts and the uploads
pub data WritesByRule (s : InstanceState) (event : CallEventValue) (w : WriteState) : Type 0 where
  -- as they were
  NothingWritten : w ≡ write_state s → WritesByRule s event w
  -- a piece is taken
  PieceTaken : (part : PartValue) → BringsPiece s event part →
      w ≡ record (write_state s) { uploads = uploads_with part s } → WritesByRule s event w
  -- the last piece is taken, and the digest of the upload names its text: this is admitted, and the
  -- upload ends
  UploadFinished : (part : PartValue) → BringsPiece s event part → part.is_last ≡ true →
      Names part.key.digest (text_with part s) →
      w ≡ record {
        visible =
            visible_after_admission s.limits.blobs s.quota part.key.digest (text_with part s) s.visible;
        uploads = without_upload part.key (uploads_with part s);
      } → WritesByRule s event w
  -- the last piece is taken, and the digest does not name the text: the upload ends
  UploadMisnamed : (part : PartValue) → BringsPiece s event part → part.is_last ≡ true →
      ¬ (Names part.key.digest (text_with part s)) →
      w ≡ record (write_state s) { uploads = without_upload part.key (uploads_with part s) } →
      WritesByRule s event w
  -- the piece would bring its upload past its size: the upload is forgotten
  UploadTooLong : (part : PartValue) → BringsPiece s event part →
      part.key.digest.size < length (text_so_far part.key s.uploads) + length part.piece.bytes →
      w ≡ record (write_state s) { uploads = without_upload part.key s.uploads } →
      WritesByRule s event w

-- ---- results

-- the event ends a request of this method, of a call that is in course, whose message came
pub record IsAsked (s : InstanceState) (event : CallEventValue) (method : Method)
    (request : List ℕ) : Type 0 where
  pub id : CallId
  pub ends : event ≡ end id
  pub call : CallValue
  pub in_course : call_at id s.calls ≡ Some call
  pub of_method : call.method ≡ method
  pub came : call.progress ≡ has request

-- the event asks for the result of this action
pub data AsksForResult (s : InstanceState) (event : CallEventValue) (action : Digest) : Type 0 where
  -- by GetActionResult
  Got : (request : List ℕ) → IsAsked s event Called.GetActionResult request →
      action_asked s.name request ≡ Ok action → AsksForResult s event action
  -- by Execute
  Executed : (request : List ℕ) (asked : ExecuteAskedValue) →
      IsAsked s event Called.Execute request → execute_asked s.name request ≡ Ok asked →
      action ≡ asked.action → AsksForResult s event action

-- the event brings this result of this action
pub data BringsResult (s : InstanceState) (event : CallEventValue) (action : Digest)
    (text : List ℕ) : Type 0 where
  -- a client sends it
  Sent : (request : List ℕ) (sent : ResultSentValue) →
      IsAsked s event Called.UpdateActionResult request → result_sent s.name request ≡ Ok sent →
      action ≡ sent.action → text ≡ sent.text → BringsResult s event action text
  -- it is what the run of a job of this action gave
  Ran : (n : ℕ) (outcome : OutcomeValue) (job : JobValue) → event ≡ end_job n outcome →
      running_job n s.jobs ≡ Some job → action ≡ job.action →
      (ending_at s outcome job).stored ≡ Some text → BringsResult s event action text

-- what the event leaves of the results
pub data ResultsByRule (s : InstanceState) (event : CallEventValue) (new : List Blob) : Type 0 where
  -- as they were
  ResultsStay : new ≡ s.results → ResultsByRule s event new
  -- the result that is asked for becomes the most recently used
  ResultUsed : (action : Digest) → AsksForResult s event action →
      new ≡ with_match_first (same_digest action) s.results → ResultsByRule s event new
  -- the result that it brings takes the place of an earlier one of its action, and the oldest go
  -- past the limits
  ResultStored : (action : Digest) (text : List ℕ) → BringsResult s event action text →
      new ≡ results_after_store s.limits action text s.results → ResultsByRule s event new

-- ---- a change of an event that the instance met in this state

-- a text is admitted under the digest that names it alone; jobs end and start as the event makes
-- them; the other changes are themselves the rule (`state_after_change`): a call goes on or ends,
-- old uploads are forgotten, an execution is done, or a job waits
abbrev pub IsByRule : InstanceState → CallEventValue → InstanceChange → Type 0
IsByRule s event (Text c) = StoresNamedText c
IsByRule s event (Wrote w) = WritesByRule s event w
IsByRule s event (Keeps results) = ResultsByRule s event results
IsByRule s event (Settles steps) = steps ≡ steps_at s event
IsByRule s event (Goes id call) = Unit {0}
IsByRule s event (Ends id) = Unit {0}
IsByRule s event Expires = Unit {0}
IsByRule s event (Does operation) = Unit {0}
IsByRule s event (Pushes job) = Unit {0}

-- ---- the empty blob

-- a blob that is not the empty one, by its digest
abbrev pub IsOfSomeByte : Blob → Type 0
IsOfSomeByte b = is_empty_digest b.0 ≡ false

-- the empty blob is always there, so it has no entry, and thus no slot of the pool
abbrev pub HasNoEmptyBlob : List Blob → Type 0
HasNoEmptyBlob visible = AllByRecursion IsOfSomeByte visible
