use Rattle.actions.proofs.Paths.{plan_once}
use Rattle.actions.proofs.laws.a_path_stands_once_in_a_plan.Goals as goal

pub returns : goal.returns
returns c = plan_once
