use Rattle.std.proofs.Common.{◌≡◌, false, replicate}
use Rattle.made_trees.proofs.instances.none_bound.Given as goal

abbrev pub invariant-loop-tree : goal.invariant-loop-tree
invariant-loop-tree l = l.bound.items ≡ replicate l._tree-index false
