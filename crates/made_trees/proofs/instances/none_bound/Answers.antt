use Rattle.std.proofs.Common.{◌≡◌, arith, length}
use Rattle.made_trees.proofs.OfInstances.{none_are_bound}
use Rattle.made_trees.proofs.instances.none_bound.Goals as goal

pub returns : goal.returns
returns c = λ run all own.
    let whole : c.loop-tree._tree-index ≡ length c.args.trees.now = omega arith in
    rw (c.loop-tree.invariant, whole) (none_are_bound run all own c.args.trees.now)
