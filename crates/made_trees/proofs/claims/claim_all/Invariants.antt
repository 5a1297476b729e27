use Rattle.std.proofs.Common.{length}
use Rattle.made_trees.proofs.Claimed.{IsSoFar}
use Rattle.made_trees.proofs.claims.claim_all.Given as goal

abbrev pub invariant-trees : goal.invariant-trees
invariant-trees l =
    IsSoFar l.run l.fn.store.trees l.fn.trees l.left l.store.trees l.own.items l.bound.items

abbrev pub decreases-trees : goal.decreases-trees
decreases-trees l = length l.left
