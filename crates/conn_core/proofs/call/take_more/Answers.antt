use Rattle.std.proofs.Common.{ap, sym, ◌∙◌, List, length}
use Rattle.conn_core.specs.declared.call.Call.{Call}
use Rattle.conn_core.specs.CallSteps.{call_place}
use Rattle.conn_core.proofs.Places.{takes_none_by, takes_at_by}
use Rattle.conn_core.proofs.call.take_more.Goals as goal

pub returns-then-place-len : goal.returns-then-place-len
returns-then-place-len c =
    takes_none_by c.args.stream c.place_of-place.result c.len.result c.args.content.now c.args.end_stream c.args.calls.now.items
    c.args.due.now.items
    (c.place_of-place.ensures ∙ ap (λ (cs : List Call). call_place c.args.stream cs) c.deref.ensures.value) c.if-place-len.true
    (c.len.ensures ∙ sym c.deref.ensures.len ∙ ap length c.deref.ensures.value)

pub returns : goal.returns
returns c =
    takes_at_by c.take.result c.args.stream c.place_of-place.result c.len.result c.args.content.now c.args.end_stream c.args.calls.now.items
    c.index_mut.result.now c.take.new.self c.index_mut.result.now c.args.due.now.items c.take.new.due.items
    (c.place_of-place.ensures ∙ ap (λ (cs : List Call). call_place c.args.stream cs) c.deref.ensures.value) c.if-place-len.false
    (c.len.ensures ∙ sym c.deref.ensures.len ∙ ap length c.deref.ensures.value) c.index_mut.ensures.value c.take.ensures.stream
    c.take.ensures.messages c.take.ensures.events
