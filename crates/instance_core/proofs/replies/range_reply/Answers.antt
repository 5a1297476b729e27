use Rattle.std.proofs.Common.{◌≡◌, [], ◌∷◌, refl, arith}
use Rattle.blob_pool.specs.Moves.{one_at}
use Rattle.instance_core.specs.declared.event.ReplyItem.TheVariants.{Begins, Gives, Ends}
use Rattle.instance_core.specs.Replies.{begins, gives, ends}
use Rattle.instance_core.specs.Shown.{range_shown}
use Rattle.instance_core.specs.ReplyHolders.{items_holders}
use Rattle.instance_core.proofs.Items.{items_given, items_held}
use Rattle.instance_core.proofs.replies.range_reply.Goals as goal

pub returns-clause-replies : goal.returns-clause-replies
returns-clause-replies c = λ p.
    let items : c.push-3.new.self.items ≡ Begins ∷ Gives c.args.range ∷ Ends ∷ [] =
    rw (c.in_ok-push-3.ensures.items, c.in_ok-push-2.ensures.items, c.in_ok-push.ensures.items, c.new-items.ensures.items) refl in
    items_given p c.reply_of.result c.args.call c.push-3.new.self.items (begins ∷ gives (range_shown p c.args.range) ∷ ends ∷ [])
    (rw items refl) (c.reply_of.ensures.replies p)

pub returns-clause-given : goal.returns-clause-given
returns-clause-given c = λ k.
    let items : c.push-3.new.self.items ≡ Begins ∷ Gives c.args.range ∷ Ends ∷ [] =
    rw (c.in_ok-push-3.ensures.items, c.in_ok-push-2.ensures.items, c.in_ok-push.ensures.items, c.new-items.ensures.items) refl in
    let one : items_holders c.push-3.new.self.items k ≡ one_at c.args.range.text k = rw items (omega arith) in
    items_held c.reply_of.result c.push-3.new.self.items k (one_at c.args.range.text k) one (c.reply_of.ensures.given k)
