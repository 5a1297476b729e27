use Rattle.execution.proofs.Tasks.{task-pushed, task-same}
use Rattle.execution.proofs.laws.a_job_keeps_its_task.Goals as goal

pub returns-clause-pushed : goal.returns-clause-pushed
returns-clause-pushed c = task-pushed

pub returns-clause-same : goal.returns-clause-same
returns-clause-same c = task-same
