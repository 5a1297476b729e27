use Rattle.std.proofs.Common.{◌≡◌, [], ◌∷◌, refl}
use Rattle.instance_core.specs.declared.event.ReplyItem.TheVariants.{Begins, Tells, Ends}
use Rattle.instance_core.specs.Replies.{begins, says, ends}
use Rattle.instance_core.proofs.Items.{items_given, nothing_held}
use Rattle.instance_core.proofs.replies.operation_reply.Goals as goal

pub returns-clause-replies : goal.returns-clause-replies
returns-clause-replies c = λ p.
    let items : c.push-3.new.self.items ≡ Begins ∷ Tells c.args.operation ∷ Ends ∷ [] =
    rw (c.in_ok-push-3.ensures.items, c.in_ok-push-2.ensures.items, c.in_ok-push.ensures.items, c.new-items.ensures.items) refl in
    items_given p c.reply_of.result c.args.call c.push-3.new.self.items (begins ∷ says c.args.operation.value.items ∷ ends ∷ [])
    (rw items refl) (c.reply_of.ensures.replies p)

pub returns-clause-given : goal.returns-clause-given
returns-clause-given c = λ k.
    let items : c.push-3.new.self.items ≡ Begins ∷ Tells c.args.operation ∷ Ends ∷ [] =
    rw (c.in_ok-push-3.ensures.items, c.in_ok-push-2.ensures.items, c.in_ok-push.ensures.items, c.new-items.ensures.items) refl in
    nothing_held c.reply_of.result c.push-3.new.self.items k (rw items refl) (c.reply_of.ensures.given k)
