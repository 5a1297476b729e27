use Rattle.std.proofs.Common.{List, sym, ap, ◌∙◌}
use Rattle.instance_view.specs.Shown.{visible_in}
use Rattle.instance_view.specs.Sight.{seen_in, sight_of}
use Rattle.action_cache.specs.Answering.{blobs_used}
use Rattle.cas_service.specs.Changes.{TextChange, visible_after_changes}
use Rattle.tree_calls.specs.GetTree.{texts_seen}
use Rattle.tree_calls.proofs.Using.{all_changed, all_kept, result_changes}
use Rattle.tree_calls.proofs.results.get_action_result.Goals as goal

pub returns-in-Some-clause-used : goal.returns-in-Some-clause-used
returns-in-Some-clause-used c = λ p quota.
    let visible = seen_in c.args.pool.now (sight_of c.args.view.now c.args.parent.now) in
    let named = blobs_used (texts_seen visible) c.in_ok-action.action c.args.results.now in
    let changes = result_changes c.args.own.now visible c.args.results.now c.args.message.now c.in_ok-action.action
    c.in_ok-action.ensures in
    c.in_ok-text.ensures.used p
    ∙ all_changed c.args.view.now.limit quota named (visible_in p c.args.view.now)
    ∙ ap (λ (cs : List TextChange). visible_after_changes c.args.view.now.limit quota cs (visible_in p c.args.view.now)) (sym changes)

pub returns-in-Some-clause-kept : goal.returns-in-Some-clause-kept
returns-in-Some-clause-kept c = λ p quota kept.
    let named = blobs_used (texts_seen (seen_in c.args.pool.now (sight_of c.args.view.now c.args.parent.now))) c.in_ok-action.action
    c.args.results.now in
    all_kept quota named p c.args.view.now c.get_result.new.view kept c.get_result.ensures.limit
    (c.in_ok-text.ensures.used p) c.get_result.ensures.holders
