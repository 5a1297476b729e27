use Rattle.std.proofs.Common.{◌≡◌, length}
use Rattle.std.specs.Map.{lookup}
use Rattle.digest.specs.Naming.{same_digest}
use Rattle.blob_pool.specs.Slots.{Slots}
use Rattle.instance_view.specs.Shown.{blobs_in}
use Rattle.execution.specs.Keeping.{kept_entries}
use Rattle.execution.proofs.reading.first_of.Given as goal

abbrev pub invariant-texts : goal.invariant-texts
invariant-texts l = (p : Slots) → lookup (same_digest l.digest) (blobs_in p (kept_entries l.left))
    ≡ lookup (same_digest l.digest) (blobs_in p (kept_entries l.texts))

abbrev pub decreases-texts : goal.decreases-texts
decreases-texts l = length l.left
