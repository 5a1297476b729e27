use Rattle.std.proofs.Common.{◌≡◌, ℕ, List, ◌∷◌, map, refl, sym, ap, subst, ◌∙◌}
use Rattle.blob_pool.proofs.Moves.{moves_none, moves_trans}
use Rattle.instance_view.specs.Shown.{holders, visible_in}
use Rattle.quota_evict.specs.Admission.{visible_after_admission}
use Rattle.outcomes.specs.declared.completion.OutputBlob.{OutputBlob}
use Rattle.outcomes.specs.Completing.{blob_shown}
use Rattle.outcomes.specs.Ending.{admissions}
use Rattle.outcomes.proofs.Admitting.{Underway, begun, gone_on}
use Rattle.outcomes.proofs.Named.{AllNamed}
use Rattle.outcomes.proofs.ending.admit_blobs.Goals as goal

pub loop-blob-init : goal.loop-blob-init
loop-blob-init c =
    let same : map blob_shown c.from_vec-left.result.items ≡ map blob_shown c.args.blobs.items =
    ap (map blob_shown) c.from_vec-left.ensures.items in
    record {
      underway = begun c.args.view.now.limit c.args.quota (visible_in c.args.pool.now c.args.view.now) (map blob_shown c.args.blobs.items)
          (map blob_shown c.from_vec-left.result.items) same;
      named = subst AllNamed (sym same) c.requires.named;
      moves = moves_none c.args.pool.now (holders c.args.view.now) (holders c.args.view.now) (λ k. refl);
      kept = c.requires.kept;
      limit = refl;
    }

pub loop-blob-preserved : goal.loop-blob-preserved
loop-blob-preserved c =
    let rest = c.pop_front.new.self.items in
    let b = blob_shown c.in-Some.blob in
    let all = admissions (map blob_shown c.args.blobs.items) in
    let limit = c.args.view.now.limit in
    let old = visible_in c.args.pool.now c.args.view.now in
    let now = visible_in c.loop-blob.pool c.loop-blob.view in
    let next = visible_in c.admit_blob.new.pool c.admit_blob.new.view in
    let is : c.loop-blob.left.items ≡ c.in-Some.blob ∷ rest = c.in-Some.ensures.items in
    let before = subst (λ (left : List OutputBlob). Underway limit c.args.quota all old now (map blob_shown left)) is
    c.loop-blob.invariant.underway in
    let admitted : next ≡ visible_after_admission limit c.args.quota b.0 b.1 now =
    c.in_ok-admit_blob.ensures.ok ∙ ap (λ (n : ℕ). visible_after_admission n c.args.quota b.0 b.1 now) c.loop-blob.invariant.limit in
    record {
      underway = gone_on limit c.args.quota all old now next b (map blob_shown rest) before admitted;
      named = (subst (λ (left : List OutputBlob). AllNamed (map blob_shown left)) is c.loop-blob.invariant.named).1;
      moves = moves_trans c.args.pool.now c.loop-blob.pool c.admit_blob.new.pool (holders c.args.view.now) (holders c.loop-blob.view)
          (holders c.admit_blob.new.view) c.loop-blob.invariant.moves c.in_ok-admit_blob.ensures.moves;
      kept = c.in_ok-admit_blob.ensures.kept;
      limit = c.in_ok-admit_blob.ensures.limit ∙ c.loop-blob.invariant.limit;
    }
