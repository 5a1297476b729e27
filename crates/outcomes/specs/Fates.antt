-- What is known of how a job ends, said of it by itself.
use Rattle.std.specs.Prelude.{◌≡◌, ℕ, pos, true, List, [], None}
use Rattle.execution_messages.specs.Progress.{gives}
use Rattle.run_calls.specs.Outcomes.{ExitedValue, OutcomeValue, exited}
use Rattle.execution.specs.Job.{JobValue}
use Rattle.outcomes.specs.Ending.{EndingValue}

-- a run came to its end with status 0, results of its job are stored, and this is the result that
-- the job gives
pub record IsOfSuccess (job : JobValue) (outcome : OutcomeValue) (e : EndingValue)
    (text : List ℕ) : Type 0 where
  pub run : ExitedValue
  pub is_exited : outcome ≡ exited run
  pub is_success : run.code ≡ pos 0
  pub is_stored : job.is_stored ≡ true
  pub is_given : e.end_is ≡ gives text

-- no blob is admitted, and no result is stored
pub record LeavesNothing (e : EndingValue) : Type 0 where
  pub no_blob : e.blobs ≡ []
  pub no_result : e.stored ≡ None
