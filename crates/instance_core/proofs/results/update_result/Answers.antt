use Rattle.std.proofs.Common.{◌≡◌, [], refl}
use Rattle.std.specs.Prelude.{string_bytes}
use Rattle.instance_limits.specs.Shown.{limits_value}
use Rattle.instance_view.specs.Shown.{visible_in}
use Rattle.tree_calls.specs.Results.{update_action_result_reply, after_update}
use Rattle.tree_calls.proofs.Short.{update_stays_within}
use Rattle.rpc.specs.declared.method.Method.TheVariants.{UpdateActionResult}
use Rattle.instance_core.proofs.Parts.{settled_results, on_answered, err_both}
use Rattle.instance_core.proofs.Carrying.{carries_results}
use Rattle.instance_core.proofs.results.update_result.Goals as goal

pub returns : goal.returns
returns c = record {
  carried =
      λ parent p kept.
      let settings = c.args.settings.now in
      let own = string_bytes settings.name in
      let old = c.args.contents.now in
      let outcome = c.update_action_result-outcome in
      let message = c.args.message.now in
      let results = outcome.new.results in
      let left = after_update own (limits_value settings.limits) old.results message in
      let reply = rw c.deref.ensures at outcome.ensures.reply in
      let stored = rw c.deref.ensures at outcome.ensures.results in
      let shown = visible_in p old.view in
      rw c.one_message.ensures
      (carries_results UpdateActionResult settings parent message p old old.view results outcome.result
      (update_action_result_reply own message) left []
      (λ calls. refl) (λ calls. refl) kept reply (on_answered outcome.result (shown ≡ shown) refl) stored
      (err_both outcome.result (results ≡ old.results) (shown ≡ shown) outcome.ensures.err refl)
      (λ k. refl) refl kept.kept (settled_results (limits_value settings.limits) outcome.result old.results left results stored
      outcome.ensures.err kept.results (update_stays_within (limits_value settings.limits) own old.results message kept.results)));
}
