use Rattle.execution.proofs.KeptTasks.{task_again}
use Rattle.execution.proofs.laws.a_task_is_read_off_its_texts.Goals as goal

pub returns : goal.returns
returns c = task_again
