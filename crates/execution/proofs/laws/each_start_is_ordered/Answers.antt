use Rattle.std.proofs.Common.{[]}
use Rattle.execution.specs.Steps.{ending_of, timings_out}
use Rattle.job_queue.specs.Jobs.{running_job}
use Rattle.execution.proofs.StartedJobs.{ending-is, timings-are, turn-ordered}
use Rattle.execution.proofs.laws.each_start_is_ordered.Goals as goal

pub returns-clause-tick : goal.returns-clause-tick
returns-clause-tick c = λ slots moment jobs. turn-ordered slots moment (timings_out moment jobs.running) jobs
    (timings-are moment jobs.running)

pub returns-clause-end : goal.returns-clause-end
returns-clause-end c = λ slots moment n e jobs. turn-ordered slots moment (ending_of n e (running_job n jobs)) jobs
    (ending-is n e (running_job n jobs))

pub returns-clause-start : goal.returns-clause-start
returns-clause-start c = λ slots moment jobs. turn-ordered slots moment [] jobs tt
