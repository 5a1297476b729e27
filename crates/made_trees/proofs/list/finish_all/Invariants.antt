use Rattle.std.proofs.Common.{◌≡◌, length}
use Rattle.made_trees.specs.RunTrees.{all_finished}
use Rattle.made_trees.proofs.list.finish_all.Given as goal

-- what is left goes on from here
abbrev pub invariant-trees : goal.invariant-trees
invariant-trees l =
    all_finished l.run l.left l.store.trees ≡ all_finished l.run l.fn.trees l.fn.store.trees

abbrev pub decreases-trees : goal.decreases-trees
decreases-trees l = length l.left
