use Rattle.action_cache.proofs.Trees.{once_is_enough}
use Rattle.action_cache.proofs.laws.the_last_of_each_tree_is_enough.Goals as goal

pub returns : goal.returns
returns c = once_is_enough
