use Rattle.std.proofs.Common.{ap, ◌∙◌, ◌+◌, length, sym, rules, map-id}
use Rattle.std.proofs.lemmas.Iterator.Consumers.{YieldsList-end}
use Rattle.std.proofs.lemmas.Iterator.Adapters.{YieldsList-from_vec}
use Rattle.std.proofs.lemmas.List.{length_push}
use Rattle.server_core.proofs.Ends.{outputs_more}
use Rattle.server_core.proofs.whole_run.outputs_of.Goals as goal

pub loop-record-preserved : goal.loop-record-preserved
loop-record-preserved c =
    let old = c.loop-record.invariant in
    let more = c.in_ok-push.ensures.items in
    record {
      count = ap length more ∙ length_push _ _ ∙ ap (λ k. k + 1) old.count ∙ sym (length_push _ _);
      outputs = outputs_more _ _ _ _ _ old.count more old.outputs c.output.ensures;
    }

pub returns-clause-count : goal.returns-clause-count
returns-clause-count c =
    let end = YieldsList-end (YieldsList-from_vec {s = c.into_iter-record-iterator.result} c.args.records.items (search rules)
    (search rules))
    c.loop-record.yielded c.loop-record.record-iterator c.loop-record.yielded_by c.next.result c.next.new.self c.in-None.is
    c.next.ensures.steps in
    c.loop-record.invariant.count ∙ end.1

pub returns-clause-outputs : goal.returns-clause-outputs
returns-clause-outputs c =
    let end = YieldsList-end (YieldsList-from_vec {s = c.into_iter-record-iterator.result} c.args.records.items (search rules)
    (search rules))
    c.loop-record.yielded c.loop-record.record-iterator c.loop-record.yielded_by c.next.result c.next.new.self c.in-None.is
    c.next.ensures.steps in
    rw (← end.0, map-id) c.loop-record.invariant.outputs
