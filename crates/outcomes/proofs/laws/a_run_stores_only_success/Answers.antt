use Rattle.outcomes.proofs.Fates.{stores_success}
use Rattle.outcomes.proofs.laws.a_run_stores_only_success.Goals as goal

pub returns : goal.returns
returns c = stores_success
