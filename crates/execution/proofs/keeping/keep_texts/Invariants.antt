use Rattle.std.proofs.Common.{◌≡◌, ◌+◌, ◌≤◌, ◌++◌, length, vec_len, vec_capacity}
use Rattle.blob_pool.specs.Slots.{Slots}
use Rattle.blob_pool.specs.Moves.{Moves, no_holders}
use Rattle.instance_view.specs.Shown.{blobs_in, entry_holders}
use Rattle.input_tree.specs.Texts.{texts_of}
use Rattle.execution.specs.Job.{kept_along}
use Rattle.execution.specs.Keeping.{kept_entries}
use Rattle.execution.proofs.keeping.keep_texts.Given as goal

abbrev pub invariant-loop-left : goal.invariant-loop-left
invariant-loop-left l = record {
  kept : (p : Slots) → blobs_in p (kept_entries l.kept.items) ++ kept_along (texts_of p l.view) l.left
      ≡ kept_along (texts_of p l.view) l.digests;
  moves : Moves l.fn.pool l.pool no_holders (entry_holders (kept_entries l.kept.items));
  space : vec_len l.kept + length l.left ≤ vec_capacity l.kept;
}

abbrev pub decreases-loop-left : goal.decreases-loop-left
decreases-loop-left l = length l.left
