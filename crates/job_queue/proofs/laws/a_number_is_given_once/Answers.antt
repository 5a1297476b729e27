use Rattle.job_queue.specs.Jobs.{no_jobs}
use Rattle.job_queue.proofs.Numbers.{given-from, given-rising}
use Rattle.job_queue.proofs.laws.a_number_is_given_once.Goals as goal

pub returns-clause-from_one : goal.returns-clause-from_one
returns-clause-from_one g c changes = given-from changes no_jobs

pub returns-clause-rising : goal.returns-clause-rising
returns-clause-rising g c changes = given-rising changes no_jobs
