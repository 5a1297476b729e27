use Rattle.std.proofs.Common.{ℕ, List, ap, ◌∙◌}
use Rattle.digest.specs.declared.Digest.{Digest}
use Rattle.instance_view.specs.Shown.{visible_in}
use Rattle.input_tree.specs.Uses.{visible_after_uses}
use Rattle.execution_messages.specs.Progress.{completed_text, finds}
use Rattle.execution.proofs.Calling.{found_after}
use Rattle.execution.proofs.executing.answer_found.Goals as goal

pub returns-clause-after : goal.returns-clause-after
returns-clause-after c = λ p parent is.
    let view = c.args.view.now in
    let d : Digest = c.args.action.now in
    let operation : List ℕ = completed_text c.args.queue.now.next d (finds c.args.found.text.items) in
    rw (c.touch.ensures, c.in_ok-told.ensures.done)
    (found_after p view c.use_all.new.view parent c.args.results.now c.args.queue.now d c.args.found.blobs.items operation
    (c.use_all.ensures.used p ∙ ap (λ (ds : List Digest). visible_after_uses ds (visible_in p view)) c.deref.ensures.value) is)
