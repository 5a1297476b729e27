use Rattle.std.proofs.Common.{ℕ, List, map, subst, ◌∙◌, Vec, Global}
use Rattle.std.specs.Prelude.{option_map}
use Rattle.instance_limits.specs.Shown.{limits_value}
use Rattle.instance_view.specs.Shown.{visible_in}
use Rattle.quota_evict.specs.Within.{AreBlobsWithin}
use Rattle.outcomes.specs.Completing.{blob_shown}
use Rattle.instance_core.specs.Shown.{contents_state}
use Rattle.instance_core.proofs.Ended.{admitted_in_part, any_err, kept_in_part, kept_whole, results_kept}
use Rattle.instance_core.proofs.ending.keep_outputs.Goals as goal

abbrev text_of : Vec ℕ Global → List ℕ
text_of text = text.items

pub returns-in_err-admit_blobs-clause-memory : goal.returns-in_err-admit_blobs-clause-memory
returns-in_err-admit_blobs-clause-memory c = λ o.
    let s = contents_state c.args.settings.now c.args.pool.now c.args.contents.now o in
    let limit = c.args.contents.now.view.limit in
    let new = visible_in c.admit_blobs.new.pool c.admit_blobs.new.view in
    any_err c.from_residual.result (admitted_in_part s limit (map blob_shown c.args.blobs.items) new c.args.action.now
    (option_map text_of c.args.stored) c.requires.kept.limit c.in_err-admit_blobs.ensures.err)

pub returns-clause-changed : goal.returns-clause-changed
returns-clause-changed c = λ o.
    let s = contents_state c.args.settings.now c.args.pool.now c.args.contents.now o in
    let limit = c.args.contents.now.view.limit in
    let new = visible_in c.admit_blobs.new.pool c.admit_blobs.new.view in
    kept_whole c.store.result s limit (map blob_shown c.args.blobs.items) new c.store.new.results c.args.action.now
    (option_map text_of c.args.stored) c.requires.kept.limit c.in_ok-admit_blobs.ensures.ok c.store.ensures.stored

pub returns-clause-memory : goal.returns-clause-memory
returns-clause-memory c = λ o.
    let s = contents_state c.args.settings.now c.args.pool.now c.args.contents.now o in
    let limit = c.args.contents.now.view.limit in
    let new = visible_in c.admit_blobs.new.pool c.admit_blobs.new.view in
    kept_in_part c.store.result s limit (map blob_shown c.args.blobs.items) new c.store.new.results c.args.action.now
    (option_map text_of c.args.stored) c.requires.kept.limit c.in_ok-admit_blobs.ensures.ok c.store.ensures.err

pub returns-clause-within : goal.returns-clause-within
returns-clause-within c =
    let kept = c.requires.kept in
    let view = c.admit_blobs.new.view in
    let limit = c.admit_blobs.ensures.limit ∙ kept.limit in
    record {
      limit = limit;
      texts = subst (λ (n : ℕ). AreBlobsWithin n c.args.settings.now.quota (visible_in c.admit_blobs.new.pool view)) limit
          c.admit_blobs.ensures.kept.within;
      uploads = kept.uploads;
      results = results_kept (limits_value c.args.settings.now.limits) c.store.result c.args.action.now
          (option_map text_of c.args.stored) c.args.contents.now.results c.store.new.results c.store.ensures.stored c.store.ensures.err
          kept.results;
    }
