use Rattle.made_trees.specs.RunTrees.{AllStayUsed}
use Rattle.made_trees.proofs.claims.settle_all.Given as goal

abbrev pub invariant-loop-tree : goal.invariant-loop-tree
invariant-loop-tree l = AllStayUsed l.fn.store.trees l.store.trees
