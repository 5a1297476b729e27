use Rattle.std.proofs.Common.{◌≡◌, length, map}
use Rattle.blob_pool.specs.Moves.{Moves}
use Rattle.instance_view.specs.Shown.{visible_in, holders}
use Rattle.quota_evict.specs.InPool.{IsViewInPool}
use Rattle.cas_service.specs.Shown.{store_of_accepted}
use Rattle.cas_service.proofs.Storing.{IsUnderway}
use Rattle.cas_service.proofs.update.store_all.Given as goal

abbrev pub invariant-blobs : goal.invariant-blobs
invariant-blobs l = record {
  underway : IsUnderway l.fn.view.limit l.quota (map store_of_accepted l.accepted) (visible_in l.fn.pool l.fn.view)
      (visible_in l.pool l.view) l.left;
  moves : Moves l.fn.pool l.pool (holders l.fn.view) (holders l.view);
  kept : IsViewInPool l.quota l.pool l.view;
  limit : l.view.limit ≡ l.fn.view.limit;
}

abbrev pub decreases-blobs : goal.decreases-blobs
decreases-blobs l = length l.left
