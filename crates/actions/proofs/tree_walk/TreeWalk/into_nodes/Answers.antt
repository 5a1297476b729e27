use Rattle.actions.proofs.Steps.{all_met}
use Rattle.actions.proofs.tree_walk.TreeWalk.into_nodes.Goals as goal

pub returns : goal.returns
returns c = λ look leads. all_met look c.args.self leads c.requires.over
