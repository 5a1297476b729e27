use Rattle.outcomes.proofs.Quotas.{run_told}
use Rattle.outcomes.proofs.sizes.runs_are_told_shortly.Goals as goal

pub returns : goal.returns
returns c = run_told
