-- How an instance and the pool fit together.
use Rattle.std.specs.Prelude.{ℕ}
use Rattle.blob_pool.specs.Slots.{Slots}
use Rattle.blob_pool.specs.Moves.{AreHeld}
use Rattle.instance_view.specs.Shown.{ViewValue, visible_in, holders}
use Rattle.quota_evict.specs.Within.{AreBlobsWithin}

-- the pool counts the instance's entries among its holders, and the texts that they find keep the
-- limits
pub record IsViewInPool (quota : ℕ) (p : Slots) (v : ViewValue) : Type 0 where
  pub held : AreHeld p (holders v)
  pub within : AreBlobsWithin v.limit quota (visible_in p v)
