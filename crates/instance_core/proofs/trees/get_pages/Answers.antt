use Rattle.std.proofs.Common.{◌≡◌, ◌++◌, ℕ, refl, ap, subst}
use Rattle.std.specs.Prelude.{string_bytes}
use Rattle.instance_view.specs.Shown.{visible_in}
use Rattle.cas_service.specs.Answers.{IfAnswered}
use Rattle.cas_service.specs.Changes.{visible_after_changes, MadeInPart}
use Rattle.tree_calls.specs.GetTree.{get_tree_replies, get_tree_changes}
use Rattle.rpc.specs.declared.method.Method.TheVariants.{GetTree}
use Rattle.instance_limits.specs.Shown.{limits_value}
use Rattle.instance_core.specs.Replies.{messages}
use Rattle.instance_core.specs.declared.answer.Answer.TheVariants.{Messages}
use Rattle.instance_core.specs.Carries.{shaped, answer_holders}
use Rattle.instance_core.proofs.Parts.{pages_said, answers_shaped, if_no_memory}
use Rattle.instance_core.proofs.Ranges.{none_made}
use Rattle.instance_core.proofs.Carrying.{carries_texts, still, message_holds, kept_within}
use Rattle.instance_core.proofs.trees.get_pages.Goals as goal

pub returns : goal.returns
returns c = record {
  carried =
      let settings = c.args.settings.now in
      let p = c.args.pool.now in
      let own = string_bytes settings.name in
      let old = c.args.contents.now in
      let outcome = c.get_tree-outcome in
      let view = outcome.new.view in
      let seen = visible_in p old.view ++ visible_in p c.args.parent.now in
      let cs = get_tree_changes own seen c.args.message.now in
      let replies = rw c.deref.ensures at outcome.ensures.replies in
      let used = rw c.deref.ensures at outcome.ensures.used p settings.quota in
      rw c.messages.ensures
      (carries_texts GetTree settings (visible_in p c.args.parent.now) c.args.message.now p p old view outcome.result Messages cs
      (λ calls. answers_shaped pages_said Messages messages p outcome.result (get_tree_replies own seen c.args.message.now)
      (λ x. refl) replies)
      (λ calls. refl)
      (subst (λ (n : ℕ). IfAnswered outcome.result (visible_in p view ≡ visible_after_changes n settings.quota cs (visible_in p old.view)))
      c.requires.kept.limit used)
      (if_no_memory outcome.result (view ≡ old.view)
      (MadeInPart (limits_value settings.limits).blobs settings.quota cs (visible_in p old.view) (visible_in p view))
      (λ is. none_made (limits_value settings.limits).blobs settings.quota cs (visible_in p old.view) (visible_in p view)
      (ap (visible_in p) is)) outcome.ensures.err)
      (still p old.view view (answer_holders (shaped Messages outcome.result)) outcome.ensures.holders
      (message_holds Messages (λ x k. refl) outcome.result))
      (kept_within settings p old p view c.requires.kept outcome.ensures.limit
      (outcome.ensures.kept p settings.quota c.requires.kept.kept)));
}
