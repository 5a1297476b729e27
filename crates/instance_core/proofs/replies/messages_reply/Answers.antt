use Rattle.std.proofs.Common.{map, Ok}
use Rattle.instance_core.specs.Replies.{messages, items_of}
use Rattle.instance_core.proofs.Items.{items_given, nothing_held}
use Rattle.instance_core.proofs.replies.messages_reply.Goals as goal

pub returns-clause-replies : goal.returns-clause-replies
returns-clause-replies c = λ p.
    items_given p c.reply_of.result c.args.call c.in_ok-items.items.items
    (items_of (Ok (messages (map (λ m. m.items) c.args.messages.items)))) (c.in_ok-items.ensures.items p) (c.reply_of.ensures.replies p)

pub returns-clause-given : goal.returns-clause-given
returns-clause-given c = λ k. nothing_held c.reply_of.result c.in_ok-items.items.items k (c.in_ok-items.ensures.given k)
    (c.reply_of.ensures.given k)
