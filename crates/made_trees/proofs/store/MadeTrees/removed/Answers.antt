use Rattle.std.proofs.Common.{arith}
use Rattle.made_trees.specs.Trees.{same_tree}
use Rattle.made_trees.proofs.Keeping.{remove_sizes, remove_rising}
use Rattle.made_trees.proofs.store.MadeTrees.removed.Goals as goal

pub invariant_of-self : goal.invariant_of-self
invariant_of-self c = rw c.shift_remove.ensures.entries (
  (λ i. omega (arith, remove_sizes (same_tree c.args.key.now) i c.self.inside.trees.entries, c.self.invariant.0 i)),
  remove_rising (same_tree c.args.key.now) 0 c.self.inside.next c.self.inside.trees.entries c.self.invariant.1,
)
