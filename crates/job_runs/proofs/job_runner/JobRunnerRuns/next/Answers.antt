use Rattle.job_runs.proofs.Spans.{one_given}
use Rattle.job_runs.proofs.job_runner.JobRunnerRuns.next.Goals as goal

pub returns-clause-together : goal.returns-clause-together
returns-clause-together g c = one_given c.args.self.now.together c.in_ok-span.span c.rest-self.result c.in_ok-span.was c.rest-self.ensures
