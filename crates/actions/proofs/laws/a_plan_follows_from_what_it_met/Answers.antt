use Rattle.actions.proofs.Again.{plan_again}
use Rattle.actions.proofs.laws.a_plan_follows_from_what_it_met.Goals as goal

pub returns : goal.returns
returns c = plan_again
