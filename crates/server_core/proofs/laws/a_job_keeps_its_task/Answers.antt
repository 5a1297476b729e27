use Rattle.server_core.proofs.SameTasks.{run_keeps_task, marked_run_keeps_task}
use Rattle.server_core.proofs.laws.a_job_keeps_its_task.Goals as goal

pub returns-clause-run : goal.returns-clause-run
returns-clause-run c = run_keeps_task

pub returns-clause-refused : goal.returns-clause-refused
returns-clause-refused c = marked_run_keeps_task
