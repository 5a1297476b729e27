use Rattle.job_queue.proofs.Keeping.{after-change}
use Rattle.job_queue.proofs.laws.jobs_stay_in_order.Goals as goal

pub returns-clause-change : goal.returns-clause-change
returns-clause-change g c = after-change
