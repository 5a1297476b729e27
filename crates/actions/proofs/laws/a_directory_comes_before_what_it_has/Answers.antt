use Rattle.actions.proofs.Places.{plan_places}
use Rattle.actions.proofs.laws.a_directory_comes_before_what_it_has.Goals as goal

pub returns : goal.returns
returns c = plan_places
