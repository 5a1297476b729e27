use Rattle.std.proofs.Common.{◌≡◌, ◌++◌, ℕ, refl, subst}
use Rattle.std.specs.Prelude.{string_bytes}
use Rattle.instance_limits.specs.Shown.{limits_value}
use Rattle.instance_view.specs.Shown.{visible_in}
use Rattle.cas_service.specs.Answers.{IfAnswered}
use Rattle.cas_service.specs.Changes.{visible_after_changes}
use Rattle.tree_calls.specs.Results.{get_action_result_reply, get_action_result_changes, after_get}
use Rattle.tree_calls.proofs.Short.{get_stays_within}
use Rattle.rpc.specs.declared.method.Method.TheVariants.{GetActionResult}
use Rattle.instance_core.proofs.Parts.{both_same, settled_results, seen_same}
use Rattle.instance_core.proofs.Carrying.{carries_results}
use Rattle.instance_core.proofs.results.get_result.Goals as goal

pub returns : goal.returns
returns c = record {
  carried =
      let settings = c.args.settings.now in
      let p = c.args.pool.now in
      let own = string_bytes settings.name in
      let old = c.args.contents.now in
      let outcome = c.get_action_result-outcome in
      let message = c.args.message.now in
      let view = outcome.new.view in
      let results = outcome.new.results in
      let seen = visible_in p old.view ++ visible_in p c.args.parent.now in
      let cs = get_action_result_changes own seen old.results message in
      let kept = after_get own seen old.results message in
      let reply = rw c.deref.ensures at outcome.ensures.reply in
      let left = rw c.deref.ensures at outcome.ensures.results in
      let used = rw c.deref.ensures at outcome.ensures.used p settings.quota in
      let limited = subst (λ (n : ℕ). IfAnswered outcome.result
      (visible_in p view ≡ visible_after_changes n settings.quota cs (visible_in p old.view))) c.requires.kept.limit used in
      let within = outcome.ensures.kept p settings.quota c.requires.kept.kept in
      let few = settled_results (limits_value settings.limits) outcome.result old.results kept results left
      (both_same outcome.result (results ≡ old.results) (view ≡ old.view) outcome.ensures.err) c.requires.kept.results
      (get_stays_within (limits_value settings.limits) own seen old.results message c.requires.kept.results) in
      rw c.one_message.ensures
      (carries_results GetActionResult settings (visible_in p c.args.parent.now) message p old view results outcome.result
      (get_action_result_reply own seen old.results message) kept cs
      (λ calls. refl) (λ calls. refl) c.requires.kept reply limited left
      (seen_same outcome.result results old.results p old.view view outcome.ensures.err)
      outcome.ensures.holders outcome.ensures.limit within few);
}
