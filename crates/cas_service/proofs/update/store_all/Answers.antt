use Rattle.std.proofs.Common.{map, arith, refl, ◌∙◌}
use Rattle.blob_pool.proofs.Moves.{moves_none, moves_trans}
use Rattle.instance_view.specs.Shown.{visible_in, holders}
use Rattle.cas_service.specs.Shown.{store_of_accepted}
use Rattle.cas_service.proofs.Storing.{underway_start, stored_next}
use Rattle.cas_service.proofs.update.store_all.Goals as goal

pub blobs-init : goal.blobs-init
blobs-init c = record {
  underway = record {
    underway = underway_start c.args.view.now.limit c.args.quota
        (visible_in c.args.pool.now c.args.view.now) c.args.accepted.now;
    storable = c.requires.storable;
  };
  moves = moves_none c.args.pool.now (holders c.args.view.now) (holders c.args.view.now) (λ k. refl);
  kept = c.requires.kept;
  limit = refl;
}

pub blobs-preserved : goal.blobs-preserved
blobs-preserved c = record {
  underway =
      stored_next c.args.view.now.limit c.args.quota (map store_of_accepted c.args.accepted.now)
      (visible_in c.args.pool.now c.args.view.now) (visible_in c.blobs.pool c.blobs.view)
      (visible_in c.store.new.pool c.store.new.view) c.blobs.left.now _
      (omega arith) c.blobs.invariant.underway c.blobs.view.limit c.blobs.invariant.limit c.in_ok-store.ensures.ok;
  moves = moves_trans c.args.pool.now c.blobs.pool c.store.new.pool (holders c.args.view.now) (holders c.blobs.view)
      (holders c.store.new.view) c.blobs.invariant.moves c.in_ok-store.ensures.moves;
  kept = c.in_ok-store.ensures.kept;
  limit = c.in_ok-store.ensures.limit ∙ c.blobs.invariant.limit;
}
