use Rattle.std.proofs.Common.{[]}
use Rattle.execution.specs.Steps.{ending_of, timings_out}
use Rattle.job_queue.specs.Jobs.{running_job}
use Rattle.execution.proofs.Timings.{tick-ends, outcome-ends, nothing-ends}
use Rattle.execution.proofs.Turns.{turn-keeps}
use Rattle.execution.proofs.laws.steps_keep_jobs.Goals as goal

pub returns-clause-tick : goal.returns-clause-tick
returns-clause-tick c = λ slots moment jobs few h. turn-keeps slots moment (timings_out moment jobs.running) jobs few
    (tick-ends moment jobs h)

pub returns-clause-end : goal.returns-clause-end
returns-clause-end c = λ slots moment n e jobs few h. turn-keeps slots moment (ending_of n e (running_job n jobs)) jobs few
    (outcome-ends n e jobs h)

pub returns-clause-start : goal.returns-clause-start
returns-clause-start c = λ slots moment jobs few h. turn-keeps slots moment [] jobs few (nothing-ends jobs h)
