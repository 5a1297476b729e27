use Rattle.std.proofs.Common.{ap, ◌∙◌, ◌≢◌, ◌++◌, sym, arith, append-nil}
use Rattle.std.specs.Prelude.{Err}
use Rattle.std.proofs.lemmas.Grind.{common_steps}
use Rattle.std.proofs.lemmas.Result.{on_ok_weaker}
use Rattle.served_instance.specs.declared.refusal.EventRefusal.TheVariants.{NoMemory}
use Rattle.server_events.specs.Shown.{event_value}
use Rattle.server_core.specs.Parents.{parent_texts}
use Rattle.server_core.proofs.Steps.{stray_runs, noted_runs, stray_told, none_told}
use Rattle.server_core.proofs.whole_run.step_and_note.Goals as goal

pub returns-in_ok-push-in-None-clause-runs : goal.returns-in_ok-push-in-None-clause-runs
returns-in_ok-push-in-None-clause-runs c =
    let did = c.step-outcome.ensures in
    let ne : c.step-outcome.result ≢ Err NoMemory = grind (arith, common_steps) in
    stray_runs _ (event_value c.args.event) _ _ _ (did.own ne) did.others (sym c.in-None.ensures.found)

pub returns-in_ok-push-in-None-clause-strays : goal.returns-in_ok-push-in-None-clause-strays
returns-in_ok-push-in-None-clause-strays c =
    let did = c.step-outcome.ensures in
    let told = stray_told c.step-outcome.new.self.instances (event_value c.args.event) c.args.place _
    (sym c.in-None.ensures.found) did.count in
    c.in_ok-push-in-None.ensures.items ∙ ap (λ ps. c.args.strays.now.items ++ ps) (sym told)

pub returns-in-Some-clause-runs : goal.returns-in-Some-clause-runs
returns-in-Some-clause-runs c =
    let did = c.step-outcome.ensures in
    let ne : c.step-outcome.result ≢ Err NoMemory = grind (arith, common_steps) in
    on_ok_weaker c.note.result (λ notes. noted_runs _ c.step-outcome.result
    (event_value c.args.event) _ _ _ c.in-Some.pool.now c.in-Some.served.now _ _ (did.own ne) did.others did.outcome
    (sym c.in-Some.ensures.found) c.in-Some.ensures.fit did.orders
    (λ r st. notes r (parent_texts c.args.event.instance c.args.server.now)
    (event_value c.args.event).lone st c.made_by-change.ensures)) c.note.ensures.stands

pub returns-in-Some-clause-strays : goal.returns-in-Some-clause-strays
returns-in-Some-clause-strays c =
    let did = c.step-outcome.ensures in
    let told = none_told c.step-outcome.new.self.instances _ (event_value c.args.event) c.args.place _
    (sym c.in-Some.ensures.found) did.count in
    let same = sym (ap (λ ps. c.args.strays.now.items ++ ps) told ∙ append-nil c.args.strays.now.items) in
    on_ok_weaker c.note.result (λ _. same) c.note.ensures.stands
