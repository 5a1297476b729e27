use Rattle.std.proofs.Common.{◌<◌, ◌≤◌, ap, ◌∙◌, arith}
use Rattle.blob_pool.proofs.Moves.{moves_trans, held_after}
use Rattle.instance_view.specs.Visible.{blobs_length}
use Rattle.instance_view.specs.Shown.{visible_in, holders}
use Rattle.quota_evict.specs.Admission.{longest_front}
use Rattle.quota_evict.proofs.Fronts.{all_fits, longest_front-without_oldest}
use Rattle.quota_evict.proofs.Steps.{sizes_named, dropped_named, shorter}
use Rattle.quota_evict.proofs.admission.evict.Goals as goal

pub texts-preserved : goal.texts-preserved
texts-preserved c =
    let bs = visible_in c.texts.pool c.texts.view in
    let more : c.args.quota < blobs_length bs = omega
    (arith, sizes_named c.texts.pool c.texts.view c.texts.invariant.named, c.total.ensures, c.texts-test.true) in
    record {
      shown_is = ap (longest_front c.args.quota) c.drop_oldest.ensures.shown ∙ longest_front-without_oldest c.args.quota bs more
          ∙ c.texts.invariant.shown_is;
      moves = moves_trans c.args.pool.now c.texts.pool c.drop_oldest.new.pool (holders c.args.view.now) (holders c.texts.view)
          (holders c.drop_oldest.new.self) c.texts.invariant.moves c.drop_oldest.ensures.moves;
      held = held_after c.texts.pool c.drop_oldest.new.pool (holders c.texts.view)
          (holders c.drop_oldest.new.self) c.drop_oldest.ensures.moves c.texts.invariant.held;
      named = dropped_named bs (visible_in c.drop_oldest.new.pool c.drop_oldest.new.self) c.drop_oldest.ensures.shown
          c.texts.invariant.named;
      limit = c.drop_oldest.ensures.limit ∙ c.texts.invariant.limit;
    }

pub texts-smaller : goal.texts-smaller
texts-smaller c =
    let bs = visible_in c.texts.pool c.texts.view in
    let more : c.args.quota < blobs_length bs = omega
    (arith, sizes_named c.texts.pool c.texts.view c.texts.invariant.named, c.total.ensures, c.texts-test.true) in
    shorter bs (visible_in c.drop_oldest.new.pool c.drop_oldest.new.self) c.drop_oldest.ensures.shown (omega (arith, more))

pub returns-clause-shown : goal.returns-clause-shown
returns-clause-shown c =
    let within : blobs_length (visible_in c.texts.pool c.texts.view) ≤ c.args.quota =
    omega (arith, sizes_named c.texts.pool c.texts.view c.texts.invariant.named, c.total.ensures, c.texts-test.false) in
    all_fits c.args.quota (visible_in c.texts.pool c.texts.view) within ∙ c.texts.invariant.shown_is
