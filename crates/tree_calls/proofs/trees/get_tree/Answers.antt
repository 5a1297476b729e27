use Rattle.std.proofs.Common.{List, sym, ap, ◌∙◌, rules}
use Rattle.instance_view.specs.Shown.{visible_in}
use Rattle.instance_view.specs.Sight.{seen_in, sight_of}
use Rattle.input_tree.specs.Listing.{tree_list}
use Rattle.input_tree.specs.Pages.{digests_of}
use Rattle.cas_service.specs.Changes.{TextChange, visible_after_changes}
use Rattle.tree_calls.specs.Asking.{tree_asked_shown}
use Rattle.tree_calls.specs.GetTree.{texts_seen}
use Rattle.tree_calls.proofs.Using.{all_changed, all_kept, tree_changes, tree_fails}
use Rattle.tree_calls.proofs.trees.get_tree.Goals as goal

pub returns-in-Ok-clause-used : goal.returns-in-Ok-clause-used
returns-in-Ok-clause-used c = λ p quota.
    let visible = seen_in c.args.pool.now (sight_of c.args.view.now c.args.parent.now) in
    let asked = tree_asked_shown c.in_ok-asked.asked in
    let listed = digests_of (tree_list (texts_seen visible) asked.root) in
    let changes = tree_changes c.args.own.now visible c.args.message.now asked _ _ c.in_ok-asked.ensures
    (search rules) c.in-Ok.ensures.pages in
    c.in-Ok.ensures.used p
    ∙ all_changed c.args.view.now.limit quota listed (visible_in p c.args.view.now)
    ∙ ap (λ (cs : List TextChange). visible_after_changes c.args.view.now.limit quota cs (visible_in p c.args.view.now)) (sym changes)

pub returns-in-Ok-clause-kept : goal.returns-in-Ok-clause-kept
returns-in-Ok-clause-kept c = λ p quota kept.
    let listed = digests_of (tree_list (texts_seen (seen_in c.args.pool.now (sight_of c.args.view.now c.args.parent.now)))
    c.in_ok-asked.asked.root) in
    all_kept quota listed p c.args.view.now c.get_tree.new.view kept c.get_tree.ensures.limit
    (c.in-Ok.ensures.used p) c.get_tree.ensures.holders

pub returns-in-Err-clause-replies : goal.returns-in-Err-clause-replies
returns-in-Err-clause-replies c =
    tree_fails c.args.own.now (seen_in c.args.pool.now (sight_of c.args.view.now c.args.parent.now)) c.args.message.now
    (tree_asked_shown c.in_ok-asked.asked) _ c.in-Err.error c.tree_error.result c.in_ok-asked.ensures
    (search rules) c.in-Err.ensures.pages c.tree_error.ensures
