use Rattle.actions.proofs.Trees.{plan_tree}
use Rattle.actions.proofs.laws.a_plan_has_the_nodes_of_its_tree.Goals as goal

pub returns : goal.returns
returns c = plan_tree
