-- Execute (remote_execution.proto, Execution): how a call is answered, and what it changes.
use Rattle.std.specs.Prelude.{ℕ, Bool, List, [], ◌∷◌, ◌++◌, length, map, nat_le, nat_lt, ◌==◌, Option, Some, None, Result, Ok, Err, if◌then◌else◌}
use Rattle.rpc.specs.declared.refusal.Refusal.{Refusal}
use Rattle.rpc.specs.declared.refusal.Refusal.TheVariants.{ExecutionIsOff, QueueFull}
use Rattle.digest.specs.declared.Digest.{Digest}
use Rattle.instance_view.specs.Visible.{Blob, visible_text}
use Rattle.input_tree.specs.Listing.{Lookup}
use Rattle.action_cache.specs.Answering.{blobs_used, result_for, results_after}
use Rattle.job_queue.specs.Jobs.{Jobs}
use Rattle.job_queue.specs.declared.queue.TheConstants.{LAST_NUMBER, MOST_WAITING}
use Rattle.execution_messages.specs.Progress.{finds, fails, completed_text, queued_text}
use Rattle.execution.specs.Job.{JobValue}
use Rattle.execution.specs.Preparing.{FaultValue, PreparedValue, prepared, met, job_of}

-- the texts of an instance, those that its parent has besides, and its results and jobs
pub record ExecutionState : Type 0 where
  pub visible : List Blob
  pub parent : List Blob
  pub results : List Blob
  pub jobs : Jobs JobValue

-- how a call is answered that is not refused
pub data ExecuteAnswer : Type 0 where
  -- by the Operation of an execution that is done
  done : List ℕ → ExecuteAnswer
  -- by the Operation of one that waits, and then by those that follow under its number
  queued : ℕ → List ℕ → ExecuteAnswer

-- what a call changes, one after another
pub data ExecuteChange : Type 0 where
  -- a text is used
  Uses : Digest → ExecuteChange
  -- the results are these
  Keeps : List Blob → ExecuteChange
  -- a number is used up for an execution that is done, with this Operation
  Does : List ℕ → ExecuteChange
  -- a job waits under a new number
  Pushes : JobValue → ExecuteChange

pub record ExecuteDone : Type 0 where
  pub answer : Result ExecuteAnswer Refusal
  pub changes : List ExecuteChange

-- the texts that the instance sees: its own, or else its parent's
abbrev pub look_in : ExecutionState → Lookup
look_in s d = visible_text d (s.visible ++ s.parent)

abbrev pub refused : Refusal → ExecuteDone
refused refusal = record { answer = Err refusal; changes = [] }

-- a stored result becomes the most recently used, and then its blobs are used
abbrev pub by_result : ExecutionState → Digest → List ℕ → ExecuteDone
by_result s d text =
    let operation = completed_text s.jobs.next d (finds text) in record {
      answer = Ok (done operation);
      changes =
          Keeps (results_after (look_in s) d s.results)
          ∷ (map Uses (blobs_used (look_in s) d s.results) ++ Does operation ∷ []);
    }

abbrev pub by_fault : ExecutionState → Digest → FaultValue → ExecuteDone
by_fault s d f =
    let operation = completed_text s.jobs.next d (fails f.fault f.missing) in
    record { answer = Ok (done operation); changes = Does operation ∷ [] }

abbrev pub by_job : ExecutionState → Digest → PreparedValue → ExecuteDone
by_job s d p =
    if nat_le MOST_WAITING (length s.jobs.waiting) then refused QueueFull
    else record {
      answer = Ok (queued s.jobs.next (queued_text s.jobs.next d));
      changes = map Uses (met d p) ++ Pushes (job_of (look_in s) d p) ∷ [];
    }

abbrev pub by_preparing : ExecutionState → Digest → Result PreparedValue FaultValue → ExecuteDone
by_preparing s d (Err f) = by_fault s d f
by_preparing s d (Ok p) = by_job s d p

abbrev pub by_looking : ExecutionState → Digest → Option (List ℕ) → ExecuteDone
by_looking s d (Some text) = by_result s d text
by_looking s d None = by_preparing s d (prepared (look_in s) d)

-- the stored result, unless it is not to be looked up
abbrev pub looked_up : Bool → Lookup → Digest → List Blob → Option (List ℕ)
looked_up skip look d results = if skip then None else result_for look d results

-- of an instance that runs so many jobs at a time
abbrev pub execute : ℕ → ExecutionState → Bool → Digest → ExecuteDone
execute slots s skip d =
    if slots == 0 then refused ExecutionIsOff
    else (if nat_lt LAST_NUMBER s.jobs.next then refused QueueFull
    else by_looking s d (looked_up skip (look_in s) d s.results))
