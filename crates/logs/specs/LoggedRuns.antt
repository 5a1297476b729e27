-- What a log of runs says.
use Rattle.std.specs.Prelude.{List, map, Option}
use Rattle.std.specs.Option.{option_map}
use Rattle.std.specs.declared.alloc.Global.{Global}
use Rattle.std.specs.declared.vec.Vec.{Vec}
use Rattle.instance_view.specs.Visible.{Blob}
use Rattle.execution.specs.Job.{TaskValue}
use Rattle.execution.specs.Orders.{start, kill}
use Rattle.execution.specs.Preparing.{task_read}
use Rattle.run_calls.specs.Shown.{outcome_shown}
use Rattle.serve.specs.RunEvents.{FaultValue, RunEvent, ordered, lent, gave}
use Rattle.logs.specs.declared.run_copies.TextCopy.{TextCopy}
use Rattle.logs.specs.declared.run_copies.TaskCopy.{TaskCopy}
use Rattle.logs.specs.declared.logged_runs.RunRecord.{RunRecord}
use Rattle.logs.specs.declared.logged_runs.RunRecord.TheVariants.{Begun, Killed, Asked, Gave}

-- a text under its digest
abbrev pub blob_copied : TextCopy → Blob
blob_copied t = (t.digest, t.bytes.items)

-- a task, read off its texts
abbrev pub task_copied : TaskCopy → TaskValue
task_copied t = task_read t.action (map blob_copied t.texts.items)

abbrev pub run_event : RunRecord → RunEvent
run_event (Begun run task) = ordered run.instance (start run.job (task_copied task))
run_event (Killed run) = ordered run.instance (kill run.job)
run_event (Asked run task) = lent run.instance run.job (option_map task_copied task)
run_event (Gave run outcome) = gave run.instance run.job (outcome_shown outcome)

abbrev pub run_events : List RunRecord → List RunEvent
run_events records = map run_event records

-- the faults that were answered, where their log is there
abbrev pub faults_logged : Option (Vec FaultValue Global) → Option (List FaultValue)
faults_logged log = option_map (λ faults. faults.items) log

-- all that happened, where the log is there
abbrev pub runs_logged : Option (Vec RunRecord Global) → Option (List RunEvent)
runs_logged log = option_map (λ records. run_events records.items) log
