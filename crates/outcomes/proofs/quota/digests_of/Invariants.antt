use Rattle.std.proofs.Common.{◌≡◌, ◌++◌, length, map}
use Rattle.outcomes.specs.Completing.{blob_shown}
use Rattle.outcomes.specs.declared.completion.OutputBlob.{OutputBlob}
use Rattle.outcomes.proofs.quota.digests_of.Given as goal

abbrev pub invariant-loop-left : goal.invariant-loop-left
invariant-loop-left l = l.digests.items ++ map (λ (b : OutputBlob). (blob_shown b).0) l.left
    ≡ map (λ (b : OutputBlob). (blob_shown b).0) l.blobs

abbrev pub decreases-loop-left : goal.decreases-loop-left
decreases-loop-left l = length l.left
