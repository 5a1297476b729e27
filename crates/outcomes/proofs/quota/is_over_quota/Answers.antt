use Rattle.std.proofs.Common.{◌≡◌, List, nat_lt, map, ap, ◌∙◌}
use Rattle.digest.specs.declared.Digest.{Digest}
use Rattle.instance_view.specs.Shown.{visible_in}
use Rattle.instance_view.specs.Visible.{Blob}
use Rattle.execution_messages.specs.Statuses.{distinct}
use Rattle.outcomes.specs.Completing.{blob_shown}
use Rattle.outcomes.specs.Fresh.{fresh_sum}
use Rattle.outcomes.proofs.Freshness.{firsts, fresh_sizes}
use Rattle.outcomes.proofs.quota.is_over_quota.Goals as goal

pub returns : goal.returns
returns c = λ p.
    (let once : c.deref-2.result.now ≡ distinct (map (λ (b : Blob). b.0) (map blob_shown c.args.blobs.now)) =
    c.deref-2.ensures.value ∙ c.in_ok-once.ensures
    ∙ ap (λ (ds : List Digest). distinct ds) (c.deref.ensures.value ∙ c.in_ok-digests.ensures ∙ firsts c.args.blobs.now) in
    c.are_over.ensures p
    ∙ ap (λ (ds : List Digest). nat_lt c.args.quota (fresh_sum (visible_in p c.args.view.now) ds)) once
    ∙ ap (nat_lt c.args.quota) (fresh_sizes (visible_in p c.args.view.now)
    (distinct (map (λ (b : Blob). b.0) (map blob_shown c.args.blobs.now)))))
