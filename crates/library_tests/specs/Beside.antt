-- Two instances over one pool.
use Rattle.std.specs.Prelude.{◌≡◌, ℕ, ◌+◌, ◌≤◌}
use Rattle.blob_pool.specs.Slots.{Slots, count_at}
use Rattle.instance_view.specs.Shown.{ViewValue, holders}
use Rattle.quota_evict.specs.InPool.{IsViewInPool}

pub record AreBeside (quota : ℕ) (p : Slots) (v w : ViewValue) : Type 0 where
  -- the pool counts the entries of the two, and nothing else
  pub exact : (k : ℕ) → count_at p k ≡ holders v k + holders w k
  pub first : IsViewInPool quota p v
  pub second : IsViewInPool quota p w
  pub first_limit : v.limit ≤ 65536
  pub second_limit : w.limit ≤ 65536
