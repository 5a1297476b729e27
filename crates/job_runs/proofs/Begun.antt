-- A run that a runner began is one of the task of its job.
use Rattle.std.proofs.Common.{◌≡◌, List, [], ◌∷◌, ◌++◌, ap, ◌∙◌}
use Rattle.std.specs.Prelude.{Result, Ok, Err, OnOk}
use Rattle.execution.specs.Job.{TaskValue}
use Rattle.run_calls.specs.declared.task.RunKey.{RunKey}
use Rattle.run_calls.specs.declared.task.Task.{Task}
use Rattle.runner.specs.declared.stage.Run.{Run}
use Rattle.runner.specs.Runs.{IsStarted}
use Rattle.job_runs.specs.Tasks.{IsTaskOf}
use Rattle.job_runs.specs.Runs.{IsBegun}

-- where there were these runs before, which are those at the begin
pub begun_of : {A E : Type 0} (r : Result A E) (run : RunKey) (task : TaskValue) (made : Task) (old mid new : List Run) → IsTaskOf task made →
    mid ≡ old → OnOk r ((b : Run) × IsStarted run made b × (new ≡ mid ++ b ∷ [])) → OnOk r (IsBegun run task old new)
begun_of (Err e) run task made old mid new of_task same on = tt
begun_of (Ok x) run task made old mid new of_task same on = record {
  made = made;
  begun = on.0;
  of_task = of_task;
  started = on.1;
  added = on.2 ∙ ap (λ (runs : List Run). runs ++ on.0 ∷ []) same;
}
