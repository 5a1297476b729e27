use Rattle.std.proofs.Common.{map, arith, ◌∙◌}
use Rattle.instance_view.specs.Shown.{visible_in}
use Rattle.quota_evict.proofs.Steps.{kept_used}
use Rattle.cas_service.specs.Changes.{Use, visible_after_changes}
use Rattle.cas_service.specs.Shown.{asked_digest}
use Rattle.cas_service.proofs.Uses.{used_next}
use Rattle.cas_service.proofs.requests.use_all.Goals as goal

pub digests-preserved : goal.digests-preserved
digests-preserved c = record {
  used_so_far = λ p quota.
      used_next c.args.view.now.limit (λ quota. visible_after_changes c.args.view.now.limit quota
      (map Use (map asked_digest c.args.asked.now)) (visible_in p c.args.view.now)) (visible_in p c.digests.view)
      (visible_in p c.touch.new.self) c.digests.left.now _ (omega arith)
      (c.digests.invariant.used_so_far p) (c.touch.ensures.used p) quota;
  same = λ k. c.touch.ensures.holders k ∙ c.digests.invariant.same k;
  kept = λ p quota old. kept_used quota _ p c.digests.view c.touch.new.self (c.digests.invariant.kept p quota old) c.touch.ensures.limit
      (c.touch.ensures.used p) c.touch.ensures.holders;
  limit = c.touch.ensures.limit ∙ c.digests.invariant.limit;
}
