use Rattle.std.proofs.Common.{◌≡◌, ◌++◌, length, map}
use Rattle.instance_view.specs.Shown.{blobs_in}
use Rattle.execution.specs.Keeping.{kept_entries}
use Rattle.server_core.specs.Shown.{text_shown}
use Rattle.server_core.proofs.orders.copy_texts.Given as goal

abbrev pub invariant-loop-left : goal.invariant-loop-left
invariant-loop-left l = map text_shown l.copied.items ++ blobs_in l.pool (kept_entries l.left) ≡ blobs_in l.pool (kept_entries l.kept)

abbrev pub decreases-loop-left : goal.decreases-loop-left
decreases-loop-left l = length l.left
