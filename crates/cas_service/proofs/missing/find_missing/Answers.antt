use Rattle.std.proofs.Common.{List, [], map, ap, ◌∙◌}
use Rattle.instance_view.specs.Shown.{visible_in}
use Rattle.instance_view.specs.Sight.{SightValue, seen_in}
use Rattle.cas_service.specs.Changes.{Use, visible_after_changes}
use Rattle.cas_service.specs.FindMissing.{missing_digests, missing_reply}
use Rattle.cas_service.specs.Shown.{asked_digest}
use Rattle.cas_service.specs.declared.requests.Asked.{Asked}
use Rattle.cas_service.proofs.Unseen.{reply_anywhere, uses_asked}
use Rattle.cas_service.proofs.missing.find_missing.Goals as goal

pub returns-clause-reply : goal.returns-clause-reply
returns-clause-reply c = λ p.
    let is = c.in_ok-reply.ensures.reply ∙ ap (λ (xs : List Asked). missing_reply
    (missing_digests (seen_in [] c.new.result) (map asked_digest xs))) c.deref.ensures.value
    ∙ ap (λ (s : SightValue). missing_reply (missing_digests (seen_in [] s) (map asked_digest c.in_ok-asked.asked.items))) c.new.ensures in
    reply_anywhere p [] (record { own = c.args.view.now; parent = c.args.parent.now }) c.args.own.now c.args.message.now
    (map asked_digest c.in_ok-asked.asked.items) c.in_ok-reply.reply.items c.in_ok-asked.ensures.named is

pub returns-clause-used : goal.returns-clause-used
returns-clause-used c = λ p quota.
    c.use_all.ensures.used p quota
    ∙ ap (λ (xs : List Asked). visible_after_changes c.args.view.now.limit quota (map Use (map asked_digest xs))
    (visible_in p c.args.view.now)) c.deref-2.ensures.value
    ∙ uses_asked c.args.view.now.limit quota c.args.own.now c.args.message.now (map asked_digest c.in_ok-asked.asked.items)
    (visible_in p c.args.view.now) c.in_ok-asked.ensures.named
