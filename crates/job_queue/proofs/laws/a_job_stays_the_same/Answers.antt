use Rattle.job_queue.proofs.Same.{stays-pushed, stays-same}
use Rattle.job_queue.proofs.laws.a_job_stays_the_same.Goals as goal

pub returns-clause-pushed : goal.returns-clause-pushed
returns-clause-pushed g c = stays-pushed

pub returns-clause-same : goal.returns-clause-same
returns-clause-same g c = stays-same
