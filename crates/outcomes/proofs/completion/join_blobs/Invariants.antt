use Rattle.std.proofs.Common.{◌≡◌, ◌++◌, length, map}
use Rattle.outcomes.specs.Completing.{blob_shown}
use Rattle.outcomes.proofs.completion.join_blobs.Given as goal

abbrev pub invariant-loop-blob : goal.invariant-loop-blob
invariant-loop-blob l = map blob_shown l.blobs.items ++ map blob_shown l.left.items ≡ map blob_shown l.fn.collection.file_blobs.items
    ++ map blob_shown l.fn.collection.tree_blobs.items

abbrev pub decreases-loop-blob : goal.decreases-loop-blob
decreases-loop-blob l = length l.left.items
