use Rattle.std.proofs.Common.{◌≡◌, [], ◌++◌, map, length}
use Rattle.tree_messages.specs.Results.{output_directory_shown}
use Rattle.action_cache.specs.LastTrees.{kept_from}
use Rattle.action_cache.proofs.last_trees.last_trees.Given as goal

abbrev pub invariant-outputs : goal.invariant-outputs
invariant-outputs l = map output_directory_shown l.kept.items ++ kept_from l.seen.keys (map output_directory_shown l.left.items)
    ≡ kept_from [] (map output_directory_shown l.outputs)

abbrev pub decreases-outputs : goal.decreases-outputs
decreases-outputs l = length l.left.items
