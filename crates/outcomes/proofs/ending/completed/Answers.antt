use Rattle.std.proofs.Common.{rules, ◌≡◌, true, false, nat_lt, map, option_map, ◌∙◌}
use Rattle.instance_view.specs.Shown.{visible_in}
use Rattle.outcomes.specs.Completing.{blob_shown, completion_shown}
use Rattle.outcomes.specs.Results.{fresh_bytes}
use Rattle.execution.specs.InPool.{job_in}
use Rattle.outcomes.specs.Ending.{stored_of}
use Rattle.outcomes.proofs.Ended.{over, within}
use Rattle.outcomes.proofs.ending.completed.Goals as goal

pub returns-then-branch : goal.returns-then-branch
returns-then-branch c = λ p.
    let is : nat_lt c.args.quota (fresh_bytes (visible_in p c.args.view.now) (map blob_shown c.args.completion.blobs.items)) ≡ true =
    search (rules, c.in_ok-is_over_quota.ensures p, c.deref.ensures.value, c.if-branch.true) in
    c.failure.ensures ∙ over c.args.quota (visible_in p c.args.view.now) (job_in p c.args.job.now) c.args.code
    (completion_shown c.args.completion) is

pub returns : goal.returns
returns c = λ p.
    let is : nat_lt c.args.quota (fresh_bytes (visible_in p c.args.view.now) (map blob_shown c.args.completion.blobs.items)) ≡ false =
    search (rules, c.in_ok-is_over_quota.ensures p, c.deref.ensures.value, c.if-branch.false) in
    let same : option_map (λ text. text.items) c.in_ok-stored.stored
    ≡ stored_of (job_in p c.args.job.now) c.args.code c.args.completion.result.items =
    search (rules, c.in_ok-stored.ensures p, c.deref-2.ensures.value) in
    within c.args.quota (visible_in p c.args.view.now) (job_in p c.args.job.now) c.args.code (completion_shown c.args.completion)
    (option_map (λ text. text.items) c.in_ok-stored.stored) is same
