use Rattle.std.proofs.Common.{length}
use Rattle.blob_pool.specs.Moves.{Moves}
use Rattle.instance_view.specs.Shown.{entry_holders}
use Rattle.execution.specs.Keeping.{kept_entries}
use Rattle.execution.proofs.making.release_texts.Given as goal

abbrev pub invariant-loop-left : goal.invariant-loop-left
invariant-loop-left l = Moves l.fn.pool l.pool (entry_holders (kept_entries l.texts)) (entry_holders (kept_entries l.left))

abbrev pub decreases-loop-left : goal.decreases-loop-left
decreases-loop-left l = length l.left
