use Rattle.std.proofs.Common.{rules}
use Rattle.execution.proofs.Taken.{runs_there}
use Rattle.execution.proofs.taking.take_step.Goals as goal

pub end_job-requires-clause-runs : goal.end_job-requires-clause-runs
end_job-requires-clause-runs c = runs_there c.args.pool.now c.in-TimesOut.number c.args.queue.now (search rules)

pub end_job-requires-in-Ends-clause-runs : goal.end_job-requires-in-Ends-clause-runs
end_job-requires-in-Ends-clause-runs c = runs_there c.args.pool.now c.in-Ends.number c.args.queue.now (search rules)
