use Rattle.actions.proofs.Missing.{nothing_missing}
use Rattle.actions.proofs.laws.a_plan_misses_nothing.Goals as goal

pub returns : goal.returns
returns c = nothing_missing
