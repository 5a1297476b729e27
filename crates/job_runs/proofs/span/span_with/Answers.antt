use Rattle.job_runs.proofs.Spans.{one_more}
use Rattle.job_runs.proofs.span.span_with.Goals as goal

pub returns-in-Some-clause-others : goal.returns-in-Some-clause-others
returns-in-Some-clause-others c = one_more c.args.span c.in-Some.span c.widened.result c.in-Some.is c.widened.ensures.others
