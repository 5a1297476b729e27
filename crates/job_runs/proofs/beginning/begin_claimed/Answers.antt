use Rattle.std.proofs.Common.{ap}
use Rattle.job_runs.proofs.Begun.{begun_of}
use Rattle.job_runs.proofs.TaskOf.{task_of}
use Rattle.job_runs.proofs.beginning.begin_claimed.Goals as goal

pub returns-clause-begun : goal.returns-clause-begun
returns-clause-begun g c = begun_of c.start.result c.args.run _ c.in_ok-made_task.made_task _ _ _
    (task_of c.args.task.pool.now c.args.task.task.now c.in_ok-read.read _ _ _ _ _ _ c.in_ok-made_task.made_task c.in_ok-read.ensures.says c.in_ok-command.ensures
    c.deref.ensures.value c.deref-3.ensures.value c.deref-2.ensures.value c.deref-4.ensures.value c.in_ok-made.ensures.may_be
    c.in_ok-made_task.ensures.program c.in_ok-made_task.ensures.directory c.in_ok-made_task.ensures.outputs
    c.in_ok-made_task.ensures.nodes c.in_ok-made_task.ensures.function)
    (ap (λ v. v.items) c.claimed.ensures.runs) c.start.ensures.runs
