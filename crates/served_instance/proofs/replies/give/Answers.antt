use Rattle.std.proofs.Common.{List, get_or, sym, ◌∙◌, subst}
use Rattle.std.specs.Prelude.{OnOk}
use Rattle.instance_core.specs.declared.event.ReplyItem.{ReplyItem}
use Rattle.instance_core.specs.ReplyHolders.{items_holders}
use Rattle.served_instance.specs.Acts.{Owes}
use Rattle.served_instance.specs.OwedReplies.{ItemsEndWithin, ReplyEndsWithin, TakesRanges, with_owed}
use Rattle.served_instance.proofs.Changes.{changed_none, changed_ok}
use Rattle.served_instance.proofs.Taking.{take_at}
use Rattle.served_instance.proofs.Cut.{others_kept}
use Rattle.served_instance.proofs.Places.{places_kept}
use Rattle.served_instance.proofs.replies.give.Goals as goal

pub returns-in-None-clause-given : goal.returns-in-None-clause-given
returns-in-None-clause-given c =
    let r = c.args.reply in
    changed_none r.call.connection c.args.connections.now (Owes (with_owed r.call.stream r.items.items)) (sym c.find.ensures ∙ c.in-None.is)

pub returns-in-Some-clause-given : goal.returns-in-Some-clause-given
returns-in-Some-clause-given c =
    let r = c.args.reply in
    let os = c.args.connections.now in
    let d = c.index-connections-place.result in
    changed_ok c.owe.result r.call.connection os c.in-Some.place d c.owe.new.connection (Owes (with_owed r.call.stream r.items.items))
    (sym c.find.ensures ∙ c.in-Some.is)
    (subst (λ (items : List ReplyItem). OnOk c.owe.result
    (Owes (with_owed r.call.stream items) (get_or os c.in-Some.place d).connection c.owe.new.connection)) c.from-items.ensures.0
    c.owe.ensures.owes)

pub returns-in-Some-clause-takes : goal.returns-in-Some-clause-takes
returns-in-Some-clause-takes c =
    let r = c.args.reply in
    let os = c.args.connections.now in
    let d = c.index-connections-place.result in
    take_at (items_holders r.items.items) (ReplyEndsWithin r) c.args.pool.now c.owe.new.pool r.call.connection os c.in-Some.place d
    c.owe.new.connection (sym c.find.ensures ∙ c.in-Some.is)
    (subst (λ (items : List ReplyItem). TakesRanges (items_holders items) (ItemsEndWithin items) c.args.pool.now
    (get_or os c.in-Some.place d).connection c.owe.new.pool c.owe.new.connection) c.from-items.ensures.0 c.owe.ensures.takes)

pub returns-in-Some-clause-others : goal.returns-in-Some-clause-others
returns-in-Some-clause-others c = others_kept c.args.reply.call.connection c.args.connections.now c.in-Some.place
    c.index-connections-place.result c.owe.new.connection (sym c.find.ensures ∙ c.in-Some.is)

pub returns-in-Some-clause-places : goal.returns-in-Some-clause-places
returns-in-Some-clause-places c = places_kept c.args.connections.now c.in-Some.place c.index-connections-place.result c.owe.new.connection
