use Rattle.job_queue.proofs.Numbers.{one-stage}
use Rattle.job_queue.proofs.laws.a_job_is_in_one_stage.Goals as goal

pub returns : goal.returns
returns g c = one-stage
