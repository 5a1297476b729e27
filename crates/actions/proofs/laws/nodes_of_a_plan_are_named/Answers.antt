use Rattle.actions.proofs.Paths.{plan_named}
use Rattle.actions.proofs.laws.nodes_of_a_plan_are_named.Goals as goal

pub returns : goal.returns
returns c = plan_named
