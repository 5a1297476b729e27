use Rattle.std.proofs.Common.{refl, List, map, subst}
use Rattle.std.specs.Prelude.{Option, ⊤}
use Rattle.execution.specs.declared.orders.Order.{Order}
use Rattle.instance_core.specs.Turns.{orders_meant}
use Rattle.server_events.specs.Events.{EventValue}
use Rattle.served_instance.specs.StandsFor.{ServedState}
use Rattle.serve.specs.RunEvents.{RunEvent, ordered, AddsRuns}
use Rattle.serve.specs.KeepsServing.{AreCarriedOut}
use Rattle.server_events.specs.Shown.{what_value}
use Rattle.serve.specs.Happenings.{event_told}
use Rattle.std.specs.declared.alloc.Global.{Global}
use Rattle.std.specs.declared.vec.Vec.{Vec}
use Rattle.served_instance.specs.declared.refusal.EventRefusal.TheVariants.{NoMemory}
use Rattle.serve.proofs.Keeps.{refused_taken, accepted_by, as_other, ok_never}
use Rattle.serve.proofs.carrying.tell.Goals as goal

pub returns-in-Err : goal.returns-in-Err
returns-in-Err g c =
    let did = c.in-Err.ensures in
    record {
      takes = refused_taken _ c.in-Err.refusal _ _ _ _ did.own did.short did.outcome did.others did.parents c.cut_with-counting.ensures;
      no_fault = refl;
      outcome = did.outcome;
      refused = did.refused;
      short = λ is. did.short (as_other ⊤ (Vec Order Global) c.in-Err.refusal NoMemory is);
    }

pub returns-in-Ok : goal.returns-in-Ok
returns-in-Ok g c =
    let did = c.in-Ok.ensures in
    let e : EventValue = event_told c.args.moment c.args.instance (what_value c.args.what) in
    let before : Option (List RunEvent) = g.R.Runs.happened c.args.runs.now in
    let after : Option (List RunEvent) = g.R.Runs.happened c.carry_out.new.runs in
    let ws : List ServedState = c.step.new.self.instances in
    let carried : AreCarriedOut c.args.instance ws c.in-Ok.orders.items before after =
    λ v is. subst (λ (os : List Order). AddsRuns before after (map (ordered c.args.instance) (orders_meant v.state.jobs os)))
    c.deref.ensures.value (c.carry_out.ensures.carried v is) in
    record {
      takes = accepted_by c.in-Ok.orders e c.args.counting.now _ c.in-Ok.orders before after did.own did.orders did.others did.stray
          did.count did.parents refl carried;
      no_fault = c.carry_out.ensures.no_fault;
      outcome = did.outcome;
      refused = tt;
      short = λ is. absurd (ok_never tt NoMemory is);
    }
