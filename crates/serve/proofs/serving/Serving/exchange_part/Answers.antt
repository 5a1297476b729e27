use Rattle.std.proofs.Common.{◌<◌, ◌∙◌, refl, length, arith}
use Rattle.std.proofs.lemmas.Grind.{common_steps}
use Rattle.serve.proofs.Open.{one_closed, one_goes, within_at}
use Rattle.serve.proofs.ServesOn.{on_at}
use Rattle.serve.proofs.serving.Serving.exchange_part.Goals as goal

pub loop-at-preserved-in-Over : goal.loop-at-preserved-in-Over
loop-at-preserved-in-Over g c =
    let lt : c.loop-at.at < length c.loop-at.self.connections.items = grind (arith, common_steps) in
    let one : c.index.result.now.socket.instance < c.loop-at.self.instances =
    within_at _ c.loop-at.self.connections.items _ _ _ c.loop-at.at c.index.result.now lt c.index.ensures c.loop-at.invariant.serves_on.opened in
    record {
      no_fault = c.in-Over.ensures.no_fault ∙ c.loop-at.invariant.no_fault;
      moment = c.loop-at.invariant.moment;
      serves_on = on_at _ _ _ _ _ _ _ _ _ _ c.loop-at.invariant.serves_on one c.in-Over.ensures.serving refl
          (one_closed _ _ _ c.loop-at.self.connections.items _ _ _ c.loop-at.at c.index.result.now lt c.index.ensures c.remove.ensures.by_index.2 c.in-Over.ensures.stays c.loop-at.invariant.serves_on.opened);
    }

pub loop-at-preserved-in-Moved : goal.loop-at-preserved-in-Moved
loop-at-preserved-in-Moved g c =
    let lt : c.loop-at.at < length c.loop-at.self.connections.items = grind (arith, common_steps) in
    let one : c.index.result.now.socket.instance < c.loop-at.self.instances =
    within_at _ c.loop-at.self.connections.items _ _ _ c.loop-at.at c.index.result.now lt c.index.ensures c.loop-at.invariant.serves_on.opened in
    record {
      no_fault = c.in-Moved.ensures.no_fault ∙ c.loop-at.invariant.no_fault;
      moment = c.loop-at.invariant.moment;
      serves_on = on_at _ _ _ _ _ _ _ _ _ _ c.loop-at.invariant.serves_on one c.in-Moved.ensures.serving refl
          (one_goes _ _ _ c.loop-at.self.connections.items _ _ c.loop-at.at c.index.result.now _ _ lt c.index.ensures refl refl refl c.in-Moved.ensures.stays c.loop-at.invariant.serves_on.opened);
    }

pub loop-at-preserved : goal.loop-at-preserved
loop-at-preserved g c =
    let lt : c.loop-at.at < length c.loop-at.self.connections.items = grind (arith, common_steps) in
    let one : c.index.result.now.socket.instance < c.loop-at.self.instances =
    within_at _ c.loop-at.self.connections.items _ _ _ c.loop-at.at c.index.result.now lt c.index.ensures c.loop-at.invariant.serves_on.opened in
    record {
      no_fault = c.in-NotReady.ensures.no_fault ∙ c.loop-at.invariant.no_fault;
      moment = c.loop-at.invariant.moment;
      serves_on = on_at _ _ _ _ _ _ _ _ _ _ c.loop-at.invariant.serves_on one c.in-NotReady.ensures.serving refl
          (one_goes _ _ _ c.loop-at.self.connections.items _ _ c.loop-at.at c.index.result.now _ _ lt c.index.ensures refl refl refl c.in-NotReady.ensures.stays c.loop-at.invariant.serves_on.opened);
    }
