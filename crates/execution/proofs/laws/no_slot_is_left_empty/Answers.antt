use Rattle.std.proofs.Common.{[]}
use Rattle.execution.specs.Steps.{ending_of, timings_out}
use Rattle.job_queue.specs.Jobs.{running_job}
use Rattle.execution.proofs.Turns.{turn-fills}
use Rattle.execution.proofs.laws.no_slot_is_left_empty.Goals as goal

pub returns-clause-tick : goal.returns-clause-tick
returns-clause-tick c = λ slots moment jobs. turn-fills slots moment (timings_out moment jobs.running) jobs

pub returns-clause-end : goal.returns-clause-end
returns-clause-end c = λ slots moment n e jobs. turn-fills slots moment (ending_of n e (running_job n jobs)) jobs

pub returns-clause-start : goal.returns-clause-start
returns-clause-start c = λ slots moment jobs. turn-fills slots moment [] jobs
