-- What a call of Execute changes, one change after another.
use Rattle.std.specs.Prelude.{List, [], ◌∷◌}
use Rattle.instance_view.specs.Visible.{visible_after_use}
use Rattle.job_queue.specs.Jobs.{jobs_after_done, jobs_after_push}
use Rattle.execution.specs.Execute.{ExecutionState, ExecuteChange, Uses, Keeps, Does, Pushes}

abbrev pub after_change : ExecuteChange → ExecutionState → ExecutionState
after_change (Uses d) s = record s { visible = visible_after_use d s.visible }
after_change (Keeps results) s = record s { results = results }
after_change (Does operation) s = record s { jobs = jobs_after_done operation s.jobs }
after_change (Pushes job) s = record s { jobs = jobs_after_push job s.jobs }

abbrev pub after_changes : List ExecuteChange → ExecutionState → ExecutionState
after_changes [] s = s
after_changes (c ∷ cs) s = after_changes cs (after_change c s)
