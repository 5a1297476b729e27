use Rattle.outcomes.proofs.Fates.{leaves_nothing}
use Rattle.outcomes.proofs.laws.what_fails_leaves_nothing.Goals as goal

pub returns : goal.returns
returns c = leaves_nothing
