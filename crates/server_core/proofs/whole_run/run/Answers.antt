use Rattle.std.proofs.Common.{List, map, map-id, rules, subst, sym}
use Rattle.std.proofs.lemmas.Iterator.Consumers.{YieldsList-end}
use Rattle.std.proofs.lemmas.Iterator.Adapters.{YieldsList-from_vec}
use Rattle.std.proofs.lemmas.List.{map_push}
use Rattle.std.proofs.lemmas.Result.{IfOk-weaker, on_ok_weaker}
use Rattle.server_events.specs.Events.{EventValue}
use Rattle.server_events.specs.Shown.{event_value}
use Rattle.server_core.specs.RunSoFar.{HasTaken}
use Rattle.server_core.proofs.whole_run.run.Goals as goal

pub loop-event-preserved : goal.loop-event-preserved
loop-event-preserved c =
    let before = c.loop-event.yielded in
    subst (λ (es : List EventValue). HasTaken c.args.configs.now es c.in_ok-run-2.run') (sym (map_push event_value before _))
    (c.in_ok-run-2.ensures c.args.configs.now (map event_value before) c.loop-event.invariant)

pub returns-clause-alone : goal.returns-clause-alone
returns-clause-alone c =
    let events = c.args.events.items in
    let end = YieldsList-end (YieldsList-from_vec {s = c.into_iter-event-iterator.result} events (search rules) (search rules))
    c.loop-event.yielded c.loop-event.event-iterator c.loop-event.yielded_by c.next.result c.next.new.self c.in-None.is
    c.next.ensures.steps in
    let taken : HasTaken c.args.configs.now (map event_value events) c.loop-event.run = rw (← end.0, map-id) c.loop-event.invariant in
    IfOk-weaker c.outputs.result _ _ (λ outputs given. given c.args.configs.now (map event_value events) taken) c.outputs.ensures.alone

pub returns-clause-count : goal.returns-clause-count
returns-clause-count c =
    let events = c.args.events.items in
    let end = YieldsList-end (YieldsList-from_vec {s = c.into_iter-event-iterator.result} events (search rules) (search rules))
    c.loop-event.yielded c.loop-event.event-iterator c.loop-event.yielded_by c.next.result c.next.new.self c.in-None.is
    c.next.ensures.steps in
    let taken : HasTaken c.args.configs.now (map event_value events) c.loop-event.run = rw (← end.0, map-id) c.loop-event.invariant in
    IfOk-weaker c.outputs.result _ _ (λ outputs given. given c.args.configs.now (map event_value events) taken) c.outputs.ensures.count

pub returns-clause-strays : goal.returns-clause-strays
returns-clause-strays c =
    let events = c.args.events.items in
    let end = YieldsList-end (YieldsList-from_vec {s = c.into_iter-event-iterator.result} events (search rules) (search rules))
    c.loop-event.yielded c.loop-event.event-iterator c.loop-event.yielded_by c.next.result c.next.new.self c.in-None.is
    c.next.ensures.steps in
    let taken : HasTaken c.args.configs.now (map event_value events) c.loop-event.run = rw (← end.0, map-id) c.loop-event.invariant in
    IfOk-weaker c.outputs.result _ _ (λ outputs given. given c.args.configs.now (map event_value events) taken) c.outputs.ensures.strays

pub returns-clause-within : goal.returns-clause-within
returns-clause-within c =
    let events = c.args.events.items in
    let end = YieldsList-end (YieldsList-from_vec {s = c.into_iter-event-iterator.result} events (search rules) (search rules))
    c.loop-event.yielded c.loop-event.event-iterator c.loop-event.yielded_by c.next.result c.next.new.self c.in-None.is
    c.next.ensures.steps in
    let taken : HasTaken c.args.configs.now (map event_value events) c.loop-event.run = rw (← end.0, map-id) c.loop-event.invariant in
    on_ok_weaker c.outputs.result (λ given. given c.args.configs.now (map event_value events) taken) c.outputs.ensures.within
