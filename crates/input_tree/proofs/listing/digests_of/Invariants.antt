use Rattle.std.proofs.Common.{◌≡◌, ◌++◌, map, length}
use Rattle.input_tree.specs.Taken.{child_taken_shown}
use Rattle.input_tree.proofs.listing.digests_of.Given as goal

abbrev pub invariant-children : goal.invariant-children
invariant-children l =
    l.digests.items ++ map (λ n. n.digest) (map child_taken_shown l.left) ≡ map (λ n. n.digest) (map child_taken_shown l.children)

abbrev pub decreases-children : goal.decreases-children
decreases-children l = length l.left
