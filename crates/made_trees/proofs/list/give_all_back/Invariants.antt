use Rattle.std.proofs.Common.{◌≡◌, length}
use Rattle.made_trees.specs.RunTrees.{all_given_back}
use Rattle.made_trees.proofs.list.give_all_back.Given as goal

-- what is left goes on from here
abbrev pub invariant-trees : goal.invariant-trees
invariant-trees l =
    all_given_back l.run l.left l.store.trees ≡ all_given_back l.run l.fn.trees l.fn.store.trees

abbrev pub decreases-trees : goal.decreases-trees
decreases-trees l = length l.left
