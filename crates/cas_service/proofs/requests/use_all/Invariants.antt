use Rattle.std.proofs.Common.{◌≡◌, ℕ, length, map}
use Rattle.blob_pool.specs.Slots.{Slots}
use Rattle.instance_view.specs.Shown.{visible_in, holders}
use Rattle.quota_evict.specs.InPool.{IsViewInPool}
use Rattle.cas_service.specs.Changes.{Use, visible_after_changes}
use Rattle.cas_service.specs.Shown.{asked_digest}
use Rattle.cas_service.proofs.requests.use_all.Given as goal

abbrev pub invariant-digests : goal.invariant-digests
invariant-digests l = record {
  used_so_far : (p : Slots) (quota : ℕ) → visible_after_changes l.fn.view.limit quota (map Use (map asked_digest l.left))
      (visible_in p l.view) ≡ visible_after_changes l.fn.view.limit quota (map Use (map asked_digest l.asked)) (visible_in p l.fn.view);
  same : (k : ℕ) → holders l.view k ≡ holders l.fn.view k;
  kept : (p : Slots) (quota : ℕ) → IsViewInPool quota p l.fn.view → IsViewInPool quota p l.view;
  limit : l.view.limit ≡ l.fn.view.limit;
}

abbrev pub decreases-digests : goal.decreases-digests
decreases-digests l = length l.left
