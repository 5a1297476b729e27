use Rattle.job_runs.proofs.Serving.{serves_of_jobs}
use Rattle.job_runs.proofs.laws.what_is_served_is_of_jobs.Goals as goal

pub returns : goal.returns
returns c = serves_of_jobs
