use Rattle.instance_core.specs.Replies.{items_of}
use Rattle.instance_core.specs.Shown.{outcome_shown}
use Rattle.instance_core.proofs.Items.{items_given, nothing_held}
use Rattle.instance_core.proofs.replies.reply_with.Goals as goal

pub returns-clause-replies : goal.returns-clause-replies
returns-clause-replies c = λ p. items_given p c.reply_of.result c.args.call c.in_ok-items.items.items
    (items_of (outcome_shown c.args.outcome)) (c.in_ok-items.ensures.items p) (c.reply_of.ensures.replies p)

pub returns-clause-given : goal.returns-clause-given
returns-clause-given c = λ k. nothing_held c.reply_of.result c.in_ok-items.items.items k (c.in_ok-items.ensures.given k)
    (c.reply_of.ensures.given k)
