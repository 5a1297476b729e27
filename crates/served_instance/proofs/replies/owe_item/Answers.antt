use Rattle.std.proofs.Common.{ap}
use Rattle.instance_core.specs.declared.event.ReplyItem.{ReplyItem}
use Rattle.instance_core.specs.ReplyHolders.{item_holders}
use Rattle.served_instance.specs.OwedReplies.{ItemEndsWithin}
use Rattle.served_instance.proofs.Gives.{owes_by, owes_item, owes_range}
use Rattle.served_instance.proofs.Taking.{takes_none}
use Rattle.served_instance.proofs.replies.owe_item.Goals as goal

pub returns-in-Begins-clause-owes : goal.returns-in-Begins-clause-owes
returns-in-Begins-clause-owes c =
    owes_item c.owe_block.result c.args.stream c.args.item _ c.args.connection.now c.owe_block.new.self c.in-Begins.is
    (owes_by c.owe_block.result _ c.args.connection.now c.owe_block.new.self c.owe_block.ensures.stands c.owe_block.ensures.rest)

pub returns-in-Begins-clause-takes : goal.returns-in-Begins-clause-takes
returns-in-Begins-clause-takes c =
    takes_none (item_holders c.args.item) (ItemEndsWithin c.args.item) c.args.pool.now c.args.connection.now c.owe_block.new.self
    (λ k. ap (λ (it : ReplyItem). item_holders it k) c.in-Begins.is)
    (record { sources = c.owe_block.ensures.sources; fit = c.owe_block.ensures.fit })

pub returns-in-Says-clause-owes : goal.returns-in-Says-clause-owes
returns-in-Says-clause-owes c =
    owes_item c.owe_message.result c.args.stream c.args.item _ c.args.connection.now c.owe_message.new.self c.in-Says.is
    (owes_by c.owe_message.result _ c.args.connection.now c.owe_message.new.self c.owe_message.ensures.stands c.owe_message.ensures.rest)

pub returns-in-Says-clause-takes : goal.returns-in-Says-clause-takes
returns-in-Says-clause-takes c =
    takes_none (item_holders c.args.item) (ItemEndsWithin c.args.item) c.args.pool.now c.args.connection.now c.owe_message.new.self
    (λ k. ap (λ (it : ReplyItem). item_holders it k) c.in-Says.is)
    (record { sources = c.owe_message.ensures.sources; fit = c.owe_message.ensures.fit })

pub returns-in-Tells-clause-owes : goal.returns-in-Tells-clause-owes
returns-in-Tells-clause-owes c =
    owes_item c.owe_shared.result c.args.stream c.args.item _ c.args.connection.now c.owe_shared.new.self c.in-Tells.is
    (owes_by c.owe_shared.result _ c.args.connection.now c.owe_shared.new.self c.owe_shared.ensures.stands c.owe_shared.ensures.rest)

pub returns-in-Tells-clause-takes : goal.returns-in-Tells-clause-takes
returns-in-Tells-clause-takes c =
    takes_none (item_holders c.args.item) (ItemEndsWithin c.args.item) c.args.pool.now c.args.connection.now c.owe_shared.new.self
    (λ k. ap (λ (it : ReplyItem). item_holders it k) c.in-Tells.is)
    (record { sources = c.owe_shared.ensures.sources; fit = c.owe_shared.ensures.fit })

pub returns-in-Gives-clause-owes : goal.returns-in-Gives-clause-owes
returns-in-Gives-clause-owes c =
    owes_item c.owe_range.result c.args.stream c.args.item _ c.args.connection.now c.owe_range.new.connection c.in-Gives.is
    (owes_range c.owe_range.result c.args.stream c.in-Gives.range c.args.connection.now c.owe_range.new.connection c.owe_range.ensures.owes
    c.owe_range.ensures.rest)

pub returns-in-Ends-clause-owes : goal.returns-in-Ends-clause-owes
returns-in-Ends-clause-owes c =
    owes_item c.owe_block-in-Ends.result c.args.stream c.args.item _ c.args.connection.now c.owe_block-in-Ends.new.self c.in-Ends.is
    (owes_by c.owe_block-in-Ends.result _ c.args.connection.now c.owe_block-in-Ends.new.self c.owe_block-in-Ends.ensures.stands
    c.owe_block-in-Ends.ensures.rest)

pub returns-in-Ends-clause-takes : goal.returns-in-Ends-clause-takes
returns-in-Ends-clause-takes c =
    takes_none (item_holders c.args.item) (ItemEndsWithin c.args.item) c.args.pool.now c.args.connection.now c.owe_block-in-Ends.new.self
    (λ k. ap (λ (it : ReplyItem). item_holders it k) c.in-Ends.is)
    (record { sources = c.owe_block-in-Ends.ensures.sources; fit = c.owe_block-in-Ends.ensures.fit })

pub returns-in-Refuses-clause-owes : goal.returns-in-Refuses-clause-owes
returns-in-Refuses-clause-owes c =
    owes_item c.owe_block-in-Refuses.result c.args.stream c.args.item _ c.args.connection.now c.owe_block-in-Refuses.new.self
    c.in-Refuses.is
    (owes_by c.owe_block-in-Refuses.result _ c.args.connection.now c.owe_block-in-Refuses.new.self c.owe_block-in-Refuses.ensures.stands
    c.owe_block-in-Refuses.ensures.rest)

pub returns-in-Refuses-clause-takes : goal.returns-in-Refuses-clause-takes
returns-in-Refuses-clause-takes c =
    takes_none (item_holders c.args.item) (ItemEndsWithin c.args.item) c.args.pool.now c.args.connection.now c.owe_block-in-Refuses.new.self
    (λ k. ap (λ (it : ReplyItem). item_holders it k) c.in-Refuses.is)
    (record { sources = c.owe_block-in-Refuses.ensures.sources; fit = c.owe_block-in-Refuses.ensures.fit })
