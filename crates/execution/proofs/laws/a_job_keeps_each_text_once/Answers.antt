use Rattle.execution.proofs.Numbers.{texts-once}
use Rattle.execution.proofs.laws.a_job_keeps_each_text_once.Goals as goal

pub returns : goal.returns
returns c = texts-once
