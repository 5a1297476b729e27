-- What an event does to an instance: a list of changes, one after another.
use Rattle.std.specs.Prelude.{◌≡◌, ℕ, List, [], ◌∷◌, ◌++◌}
use Rattle.cas_service.specs.Changes as Texts
use Rattle.instance_core.specs.declared.event.CallId.{CallId}
use Rattle.instance_view.specs.Visible.{Blob}
use Rattle.uploads.specs.Uploads.{uploads_at}
use Rattle.bytestream.specs.Writing.{WriteState}
use Rattle.job_queue.specs.Jobs.{jobs_after_done, jobs_after_push}
use Rattle.execution.specs.Job.{JobValue}
use Rattle.execution.specs.Steps.{StepValue, jobs_after_steps}
use Rattle.instance_core.specs.Calls.{CallValue, with_call, without_call}
use Rattle.instance_core.specs.Watching.{calls_after_steps}
use Rattle.instance_core.specs.State.{InstanceState}

pub data InstanceChange : Type 0 where
  -- a use of a text, or an admission
  Text : Texts.TextChange → InstanceChange
  -- a call begins, or goes on with what is kept of it
  Goes : CallId → CallValue → InstanceChange
  -- a call ends
  Ends : CallId → InstanceChange
  -- a message of a Write leaves these texts and uploads
  Wrote : WriteState → InstanceChange
  -- a call leaves these results
  Keeps : List Blob → InstanceChange
  -- uploads that were not written to for long are forgotten
  Expires : InstanceChange
  -- a number is used up for an execution that is done, with this Operation
  Does : List ℕ → InstanceChange
  -- a job waits under a new number
  Pushes : JobValue → InstanceChange
  -- jobs end and start, all at once; those who watch one that ends are calls no more
  Settles : List StepValue → InstanceChange

abbrev pub state_after_change : InstanceChange → InstanceState → InstanceState
state_after_change (Text c) s =
    record s { visible = Texts.visible_after_change s.limits.blobs s.quota c s.visible }
state_after_change (Goes id call) s = record s { calls = with_call id call s.calls }
state_after_change (Ends id) s = record s { calls = without_call id s.calls }
state_after_change (Wrote w) s = record s { visible = w.visible; uploads = w.uploads }
state_after_change (Keeps results) s = record s { results = results }
state_after_change Expires s = record s { uploads = uploads_at s.moment s.uploads }
state_after_change (Does operation) s = record s { jobs = jobs_after_done operation s.jobs }
state_after_change (Pushes job) s = record s { jobs = jobs_after_push job s.jobs }
state_after_change (Settles steps) s = record s {
  jobs = jobs_after_steps steps s.jobs;
  calls = calls_after_steps steps s.calls;
}

abbrev pub state_after_changes : List InstanceChange → InstanceState → InstanceState
state_after_changes [] s = s
state_after_changes (c ∷ cs) s = state_after_changes cs (state_after_change c s)

-- a front of the changes was made
pub record MadeInPart (changes : List InstanceChange) (old new : InstanceState) : Type 0 where
  pub made : List InstanceChange
  pub left : List InstanceChange
  pub front : changes ≡ made ++ left
  pub so_far : new ≡ state_after_changes made old
