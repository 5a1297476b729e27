use Rattle.std.proofs.Common.{◌≡◌, ◌++◌, length, map}
use Rattle.instance_view.specs.Shown.{blobs_in}
use Rattle.execution.specs.Keeping.{kept_entries}
use Rattle.logs.specs.LoggedRuns.{blob_copied}
use Rattle.logs.proofs.run_copies.copied_texts.Given as goal

abbrev pub invariant-loop-left : goal.invariant-loop-left
invariant-loop-left l =
    map blob_copied l.copy.items ++ blobs_in l.pool (kept_entries l.left) ≡ blobs_in l.pool (kept_entries l.texts)

abbrev pub decreases-loop-left : goal.decreases-loop-left
decreases-loop-left l = length l.left
