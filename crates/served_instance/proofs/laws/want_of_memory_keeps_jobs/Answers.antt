use Rattle.served_instance.proofs.KeptJobs.{short_keeps, short_ends}
use Rattle.served_instance.proofs.laws.want_of_memory_keeps_jobs.Goals as goal

pub returns-clause-kept : goal.returns-clause-kept
returns-clause-kept c = short_keeps

pub returns-clause-outcome : goal.returns-clause-outcome
returns-clause-outcome c = short_ends
