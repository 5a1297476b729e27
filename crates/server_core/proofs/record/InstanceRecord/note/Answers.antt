use Rattle.std.proofs.Common.{[], ◌∷◌, ◌++◌, ◌+◌, ◌≡◌, ap, ◌∙◌, sym, subst, List, length}
use Rattle.std.specs.Prelude.{map, Result, Err, IfOk, None}
use Rattle.std.specs.declared.alloc.Global.{Global}
use Rattle.std.specs.declared.vec.Vec.{Vec}
use Rattle.std.specs.Vec.{with_items}
use Rattle.std.proofs.lemmas.Result.{on_ok_weaker}
use Rattle.execution.specs.declared.orders.Order.{Order}
use Rattle.std.proofs.lemmas.List.{map_push, with_items_is}
use Rattle.instance_core.specs.Slots.{state_in}
use Rattle.instance_core.specs.Turns.{AreOrders, orders_meant}
use Rattle.instance_core.proofs.OrdersMeant.{all_meant}
use Rattle.served_instance.specs.declared.refusal.EventRefusal.{EventRefusal}
use Rattle.served_instance.specs.Refusals.{refusal_of, lone_orders, lone_step, IsRefusalOutcome}
use Rattle.server_core.specs.declared.record.ConnectionChange.{ConnectionChange}
use Rattle.server_core.specs.declared.record.OpenRecord.{OpenRecord}
use Rattle.server_core.specs.Shown.{ordered_shown, sent_shown, refused_shown}
use Rattle.server_core.specs.Notes.{open_records_changed, open_records_after, sent_bytes_changed, sent_bytes_after, sent_bytes_with_all, record_after_noting}
use Rattle.server_core.specs.Runs.{orders_at}
use Rattle.server_core.specs.Records.{RecordValue, IsRecord}
use Rattle.server_core.proofs.Noted.{noted, noted_apart, refused_noted}
use Rattle.server_core.proofs.record.InstanceRecord.note.Goals as goal

pub returns-in_ok-gather-in-Ok-clause-stands : goal.returns-in_ok-gather-in-Ok-clause-stands
returns-in_ok-gather-in-Ok-clause-stands c = on_ok_weaker c.add_orders.result (λ more r bs e st change outcome served ordered.
    let m = lone_step bs e r.lone in
    let v : RecordValue = record {
      count = c.self.inside.count;
      orders = map ordered_shown c.self.inside.orders.items;
      refusals =
          map refused_shown c.self.inside.refusals.items;
      sent = map sent_shown c.self.inside.sent.items;
      live = c.self.inside.live.items;
    } in
    let st0 : IsRecord v r = subst (λ (w : RecordValue). IsRecord w r) (sym c.self.view_is) st in
    let none : refusal_of e r.lone ≡ None = subst
    (λ (o : Result (Vec Order Global) EventRefusal). IsRefusalOutcome o (refusal_of e r.lone)) c.in-Ok.is outcome in
    let apart = noted_apart v r bs e st0 none in
    let live : c.follow.new.live.items ≡ open_records_after e.what (length v.sent) v.live =
    c.in_ok-follow-in-Ok.ensures.live ∙ ap (λ (d : ConnectionChange). open_records_changed d (length v.sent) v.live) change in
    let began : map sent_shown c.follow.new.sent.items ≡ sent_bytes_after e.what v.sent =
    c.in_ok-follow-in-Ok.ensures.sent ∙ ap (λ (d : ConnectionChange). sent_bytes_changed d v.sent) change in
    let sent : map sent_shown c.gather.new.sent.items
    ≡ sent_bytes_with_all m (open_records_after e.what (length v.sent) v.live) (sent_bytes_after e.what v.sent) =
    c.in_ok-gather-in-Ok.ensures m served apart
    ∙ ap (λ (os : List OpenRecord). sent_bytes_with_all m os (map sent_shown c.follow.new.sent.items)) (c.deref.ensures.value ∙ live)
    ∙ ap (sent_bytes_with_all m (open_records_after e.what (length v.sent) v.live)) began in
    let counted : c.count_untaken.new.live ≡ map (record_after_noting m) (open_records_after e.what (length v.sent) v.live) =
    c.count_untaken.ensures m served apart ∙ ap (map (record_after_noting m)) (c.deref_mut.ensures.value ∙ live) in
    let written : (with_items c.follow.new.live c.count_untaken.new.live).items ≡ c.count_untaken.new.live =
    with_items_is c.follow.new.live c.count_untaken.new.live (c.count_untaken.auto.live ∙ c.deref_mut.ensures.len) in
    let jobs = (state_in c.args.pool.now c.args.instance.now.instance).jobs in
    let are : AreOrders jobs c.in-Ok.orders.items (lone_orders bs e r.lone) =
    subst (λ (o : Result (Vec Order Global) EventRefusal). IfOk o (λ orders. AreOrders jobs orders.items (lone_orders bs e r.lone)))
    c.in-Ok.is ordered in
    let gave : orders_meant jobs c.in-Ok.orders.items ≡ lone_orders bs e r.lone =
    all_meant jobs c.in-Ok.orders.items (lone_orders bs e r.lone) are in
    let added : map ordered_shown c.add_orders.new.ordered.items ≡ v.orders
    ++ orders_at (v.count + 1) (orders_meant jobs c.in-Ok.orders.items) =
    more ∙ ap (λ (os : List Order). v.orders ++ orders_at (v.count + 1) (orders_meant jobs os)) c.deref-in-Ok.ensures.value in
    noted v r bs e (orders_meant jobs c.in-Ok.orders.items) (map ordered_shown c.add_orders.new.ordered.items)
    (map sent_shown c.gather.new.sent.items) (with_items c.follow.new.live c.count_untaken.new.live).items st0 none gave added sent
    (written ∙ counted))
    c.add_orders.ensures

pub returns-in_ok-push-in-Err-clause-stands : goal.returns-in_ok-push-in-Err-clause-stands
returns-in_ok-push-in-Err-clause-stands c = λ r bs e st change outcome served ordered.
    let v : RecordValue = record {
      count = c.self.inside.count;
      orders = map ordered_shown c.self.inside.orders.items;
      refusals =
          map refused_shown c.self.inside.refusals.items;
      sent = map sent_shown c.self.inside.sent.items;
      live = c.self.inside.live.items;
    } in
    let st0 : IsRecord v r = subst (λ (w : RecordValue). IsRecord w r) (sym c.self.view_is) st in
    let told : map refused_shown c.push.new.self.items ≡ v.refusals ++ (v.count + 1, c.in-Err.refusal) ∷ [] =
    ap (map refused_shown) c.in_ok-push-in-Err.ensures.items ∙ map_push refused_shown c.self.inside.refusals.items _ in
    refused_noted (Vec Order Global) v r bs e c.in-Err.refusal (map refused_shown c.push.new.self.items) st0
    (λ is. c.requires.memory (c.in-Err.is ∙ ap Err is))
    (subst (λ (o : Result (Vec Order Global) EventRefusal). IsRefusalOutcome o (refusal_of e r.lone)) c.in-Err.is outcome) told
