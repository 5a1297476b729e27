use Rattle.std.proofs.Common.{◌≡◌, replicate}
use Rattle.made_trees.specs.RunTrees.{no_trees}
use Rattle.made_trees.proofs.instances.InstanceTrees.new.Given as goal

abbrev pub invariant-loop-instance : goal.invariant-loop-instance
invariant-loop-instance l = l.stores.items ≡ replicate l._instance (no_trees l.most_bytes)
