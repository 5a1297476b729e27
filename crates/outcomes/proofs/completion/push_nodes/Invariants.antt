use Rattle.std.proofs.Common.{◌≡◌, ◌++◌, length, map}
use Rattle.outcomes.specs.Completing.{blob_shown}
use Rattle.outcomes.specs.Results.{node_blobs}
use Rattle.run_calls.specs.Shown.{nodes_shown}
use Rattle.outcomes.proofs.completion.push_nodes.Given as goal

abbrev pub invariant-loop-node : goal.invariant-loop-node
invariant-loop-node l = map blob_shown l.blobs.items ++ node_blobs l.like (nodes_shown l.left.items) ≡ map blob_shown l.fn.blobs.items
    ++ node_blobs l.like (nodes_shown l.fn.nodes.items)

abbrev pub decreases-loop-node : goal.decreases-loop-node
decreases-loop-node l = length l.left.items
