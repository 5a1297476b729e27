use Rattle.std.proofs.Common.{rules, tests, ◌≡◌, arith, refl}
use Rattle.std.specs.Prelude.{⊤}
use Rattle.server_core.specs.Parents.{parent_texts}
use Rattle.served_instance.specs.declared.refusal.EventRefusal.TheVariants.{TooManyConnections}
use Rattle.serve.specs.declared.sockets.Socket.{Socket}
use Rattle.serve.proofs.Closings.{WasRefused, lacks_room, refused_may_close}
use Rattle.serve.proofs.Keeps.{accepted_told}
use Rattle.serve.proofs.Numbers.{at}
use Rattle.serve.proofs.Open.{accepted_by, added_by, refused_open}
use Rattle.serve.proofs.serving.Serving.open.Goals as goal

pub returns-in-Ok-tell-clause-serves_on : goal.returns-in-Ok-tell-clause-serves_on
returns-in-Ok-tell-clause-serves_on g c = record {
  serving = λ configs same so.
      accepted_told configs _ _ _ _ _ _ _ _ _ (omega (arith, same, c.requires.one)) c.in_default-pending.ensures.bytes c.in-Ok.ensures.adds
      c.tell.ensures.takes so;
  instances = refl;
  opened = added_by _ c.new-opened.result _ c.reserve.new.self.items _ _ _ c.put.ensures
      (accepted_by _ _ c.args.instance c.in-Some.connection c.new-opened.result _ c.args.self.now.connections.items c.reserve.new.self.items _
      c.args.self.now.next c.number_after-self-2.result _ c.new-opened.ensures.socket c.new-opened.ensures.heard
      c.new-opened.ensures.received c.requires.one c.in-Some.is c.in-Ok.ensures.adds c.reserve.ensures.items c.deref-2.ensures.value
      c.number_after-self-2.ensures c.requires.opened);
}

pub returns-then-eq-clause-serves_on : goal.returns-then-eq-clause-serves_on
returns-then-eq-clause-serves_on g c = record {
  serving = λ configs same so.
      let a : Socket = at c.args.instance c.in-Some.connection in
      let w : WasRefused configs (g.S.Sockets.happened c.args.sockets.now) (g.S.Sockets.happened c.accept.new.self)
      (g.R.Runs.happened c.args.runs.now) (g.R.Runs.happened c.tell.new.runs) c.args.self.now.counting c.tell.new.counting
      c.args.self.now.moment a (parent_texts c.args.instance c.args.self.now.counting.server) ⊤ c.in-Err.refusal = record {
        one = omega (arith, same, c.requires.one);
        serving = so;
        pends = c.in_default-pending.ensures.bytes;
        adds = c.in-Ok.ensures.adds;
        takes = c.tell.ensures.takes;
        outcome = c.in-Err.ensures.outcome;
        refused = c.in-Err.ensures.refused;
        short = c.in-Err.ensures.short;
      } in
      let many : c.in-Err.refusal ≡ TooManyConnections =
      first_of (
        search (rules, c.eq.ensures, c.if-eq.true),
        search (rules, tests, c.eq.ensures, c.if-eq.true),
        grind
            (arith, rules, c.eq.ensures, c.if-eq.true),
      ) in
      c.make_room.ensures.serving
      (lacks_room configs _ _ (g.S.Sockets.happened c.close.new.sockets) _ _
      (g.R.Runs.happened c.close.new.runs) _ _ c.close.new.counting _ a _ _ _ w many c.close.ensures.shut c.close.ensures.unknown
      c.close.ensures.in_vain)
      configs same
      (c.close.ensures.serving (refused_may_close configs _ _ _ _ _ _ _ a _ _ _ w) configs (omega (arith, same, c.requires.one))
      (accepted_told configs _ _ _ _ _ _ _ _ _ (omega (arith, same, c.requires.one)) c.in_default-pending.ensures.bytes c.in-Ok.ensures.adds
      c.tell.ensures.takes so));
  instances = c.make_room.ensures.instances;
  opened = c.make_room.ensures.opened;
}

pub returns-else-eq-clause-serves_on : goal.returns-else-eq-clause-serves_on
returns-else-eq-clause-serves_on g c = record {
  serving = λ configs same so.
      let a : Socket = at c.args.instance c.in-Some.connection in
      let w : WasRefused configs (g.S.Sockets.happened c.args.sockets.now) (g.S.Sockets.happened c.accept.new.self)
      (g.R.Runs.happened c.args.runs.now) (g.R.Runs.happened c.tell.new.runs) c.args.self.now.counting c.tell.new.counting
      c.args.self.now.moment a (parent_texts c.args.instance c.args.self.now.counting.server) ⊤ c.in-Err.refusal = record {
        one = omega (arith, same, c.requires.one);
        serving = so;
        pends = c.in_default-pending.ensures.bytes;
        adds = c.in-Ok.ensures.adds;
        takes = c.tell.ensures.takes;
        outcome = c.in-Err.ensures.outcome;
        refused = c.in-Err.ensures.refused;
        short = c.in-Err.ensures.short;
      } in
      c.close.ensures.serving (refused_may_close configs _ _ _ _ _ _ _ a _ _ _ w) configs (omega (arith, same, c.requires.one))
      (accepted_told configs _ _ _ _ _ _ _ _ _ (omega (arith, same, c.requires.one)) c.in_default-pending.ensures.bytes c.in-Ok.ensures.adds
      c.tell.ensures.takes so);
  instances = refl;
  opened = refused_open _ _ _ c.args.instance c.in-Some.connection _ c.args.self.now.connections.items c.reserve.new.self.items _
      c.args.self.now.next c.number_after-self-2.result _ c.requires.one c.in-Some.is c.in-Ok.ensures.adds c.reserve.ensures.items
      c.deref-2.ensures.value c.number_after-self-2.ensures c.close.ensures.closes c.requires.opened;
}

pub make_room-requires-clause-opened : goal.make_room-requires-clause-opened
make_room-requires-clause-opened g c =
    refused_open _ _ _ c.args.instance c.in-Some.connection _ c.args.self.now.connections.items c.reserve.new.self.items _
    c.args.self.now.next c.number_after-self-2.result _ c.requires.one c.in-Some.is c.in-Ok.ensures.adds c.reserve.ensures.items
    c.deref-2.ensures.value c.number_after-self-2.ensures c.close.ensures.closes c.requires.opened
