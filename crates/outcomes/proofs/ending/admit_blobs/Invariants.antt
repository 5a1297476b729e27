use Rattle.std.proofs.Common.{◌≡◌, length, map}
use Rattle.blob_pool.specs.Moves.{Moves}
use Rattle.instance_view.specs.Shown.{holders, visible_in}
use Rattle.quota_evict.specs.InPool.{IsViewInPool}
use Rattle.outcomes.specs.Completing.{blob_shown}
use Rattle.outcomes.specs.Ending.{admissions}
use Rattle.outcomes.proofs.Admitting.{Underway}
use Rattle.outcomes.proofs.Named.{AllNamed}
use Rattle.outcomes.proofs.ending.admit_blobs.Given as goal

abbrev pub invariant-loop-blob : goal.invariant-loop-blob
invariant-loop-blob l = record {
  underway : Underway l.fn.view.limit l.quota (admissions (map blob_shown l.fn.blobs.items)) (visible_in l.fn.pool l.fn.view)
      (visible_in l.pool l.view) (map blob_shown l.left.items);
  named : AllNamed (map blob_shown l.left.items);
  moves : Moves l.fn.pool l.pool (holders l.fn.view) (holders l.view);
  kept : IsViewInPool l.quota l.pool l.view;
  limit : l.view.limit ≡ l.fn.view.limit;
}

abbrev pub decreases-loop-blob : goal.decreases-loop-blob
decreases-loop-blob l = length l.left.items
