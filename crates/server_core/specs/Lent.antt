-- What the task of a job stands for that is lent.
use Rattle.execution.specs.Job.{TaskValue}
use Rattle.execution.specs.InPool.{task_in}
use Rattle.server_core.specs.declared.server.LentTask.{LentTask}

abbrev pub lent_shown : LentTask → TaskValue
lent_shown l = task_in l.pool.now l.task.now
