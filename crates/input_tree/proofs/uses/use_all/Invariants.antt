use Rattle.std.proofs.Common.{◌≡◌, ℕ, length}
use Rattle.blob_pool.specs.Slots.{Slots}
use Rattle.instance_view.specs.Shown.{visible_in, holders}
use Rattle.input_tree.specs.Uses.{visible_after_uses}
use Rattle.input_tree.proofs.uses.use_all.Given as goal

abbrev pub invariant-digests : goal.invariant-digests
invariant-digests l = record {
  used_so_far : (p : Slots) → visible_after_uses l.left (visible_in p l.view) ≡ visible_after_uses l.digests (visible_in p l.fn.view);
  same : (k : ℕ) → holders l.view k ≡ holders l.fn.view k;
  limit : l.view.limit ≡ l.fn.view.limit;
}

abbrev pub decreases-digests : goal.decreases-digests
decreases-digests l = length l.left
