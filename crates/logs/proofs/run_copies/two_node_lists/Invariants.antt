use Rattle.std.proofs.Common.{◌≡◌, ◌++◌, length, map}
use Rattle.run_calls.specs.Shown.{node_shown}
use Rattle.logs.proofs.run_copies.two_node_lists.Given as goal

abbrev pub invariant-loop-node : goal.invariant-loop-node
invariant-loop-node l =
    (map node_shown l.ones.items ++ map node_shown l.left.items ≡ map node_shown l.fn.nodes.items)
    × (map node_shown l.others.items ++ map node_shown l.left.items ≡ map node_shown l.fn.nodes.items)

abbrev pub decreases-loop-node : goal.decreases-loop-node
decreases-loop-node l = length l.left.items
