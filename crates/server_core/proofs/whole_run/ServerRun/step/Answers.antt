use Rattle.std.proofs.Common.{◌≡◌, ◌+◌, ◌++◌, ◌∙◌, List, [], ◌∷◌, ap, arith, length, refl, subst, sym}
use Rattle.std.proofs.lemmas.Grind.{common_steps}
use Rattle.server_events.specs.Shown.{event_value}
use Rattle.server_events.specs.Faults.{AreParents}
use Rattle.server_core.specs.Records.{RecordValue}
use Rattle.server_core.specs.RunSoFar.{HasTaken, IsRunning, RunValue}
use Rattle.server_core.specs.RunTo.{HasRun}
use Rattle.server_core.proofs.Lists.{written}
use Rattle.server_core.proofs.Runs.{taken_more}
use Rattle.server_core.proofs.whole_run.ServerRun.step.Goals as goal

pub returns : goal.returns
returns c configs events h =
    let did = c.in_ok-step_and_note.ensures in
    let old = c.self.inside in
    let new = c.step_and_note.new in
    let before : RunValue = record { server = old.server; records = old.records.items; strays = old.strays.items; count = old.count } in
    let long : old.records.len ≡ length new.records = grind (arith, common_steps) in
    let after : RunValue = record { server = new.server; records = new.records; strays = new.strays.items; count = old.count + 1 } in
    let taken = taken_more configs events (event_value c.args.event) before after (subst (HasTaken configs events) (sym c.self.view_is) h)
    refl did.count did.parents c.self.invariant.parents
    (λ i r was. did.runs i r (subst (λ (rs : List RecordValue). HasRun i old.server.instances rs r) (sym c.deref_mut.ensures.value) was))
    did.strays in
    subst (λ (rs : List RecordValue). HasTaken configs (events ++ event_value c.args.event ∷ [])
    (record { server = new.server; records = rs; strays = new.strays.items; count = old.count + 1 }))
    (sym (written _ _ _ long)) taken

pub invariant_of-result : goal.invariant_of-result
invariant_of-result c =
    let did = c.in_ok-step_and_note.ensures in
    let old = c.self.inside in
    let new = c.step_and_note.new in
    let long : old.records.len ≡ length new.records = grind (arith, common_steps) in
    let did_parents = c.in_ok-step_and_note.ensures.parents in
    let each : length new.records ≡ length new.server.instances =
    c.step_and_note.auto.records ∙ ap length c.deref_mut.ensures.value ∙ c.self.invariant.each ∙ sym did.count in
    subst (λ (rs : List RecordValue). IsRunning (record
    { server = new.server; records = rs; strays = new.strays.items; count = old.count + 1 }))
    (sym (written _ _ _ long)) (record {
      within = did.within;
      parents = subst AreParents (sym did_parents) c.self.invariant.parents;
      each =
          each;
      room = did.room;
    })
