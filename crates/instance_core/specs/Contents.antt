-- The contents of an instance: of each text its digest and the slot where a pool has it, the
-- unfinished uploads, and the results of actions. For the code alone: no public contract speaks of
-- it.
use Rattle.std.specs.Prelude.{◌≡◌, ◌≤◌}
use Rattle.blob_pool.specs.Slots.{Slots}
use Rattle.instance_view.specs.Shown.{visible_in}
use Rattle.quota_evict.specs.InPool.{IsViewInPool}
use Rattle.quota_evict.specs.Within.{AreBlobsWithin, most_stored_bytes}
use Rattle.uploads.specs.Uploads.{AreUploadsWithin}
use Rattle.tree_calls.specs.Complete.{AreResultsWithin}
use Rattle.instance_limits.specs.Shown.{limits_value}
use Rattle.instance_core.specs.declared.contents.Settings.{Settings}
use Rattle.instance_core.specs.declared.contents.Contents.{Contents}

-- contents whose texts stand in a pool are within the limits of an instance that is configured so
pub record AreContentsWithin (settings : Settings) (p : Slots) (c : Contents) : Type 0 where
  pub limit : c.view.limit ≡ (limits_value settings.limits).blobs
  pub texts : AreBlobsWithin (limits_value settings.limits).blobs settings.quota
      (visible_in p c.view)
  pub uploads : AreUploadsWithin settings.quota c.uploads
  pub results : AreResultsWithin (limits_value settings.limits) c.results

-- they are within these limits, and the pool counts their texts' slots among what it holds
pub record AreContentsInPool (settings : Settings) (p : Slots) (c : Contents) : Type 0 where
  pub quota : settings.quota ≤ most_stored_bytes
  pub limit : c.view.limit ≡ (limits_value settings.limits).blobs
  pub kept : IsViewInPool settings.quota p c.view
  pub uploads : AreUploadsWithin settings.quota c.uploads
  pub results : AreResultsWithin (limits_value settings.limits) c.results
