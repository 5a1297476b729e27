use Rattle.std.proofs.Common.{◌<◌, arith, refl, length, List, subst}
use Rattle.std.specs.Prelude.{Some}
use Rattle.served_instance.specs.Lone.{LoneInstance}
use Rattle.server_core.specs.StandsFor.{StandsAt}
use Rattle.serve.specs.Silence.{IsLongestSilent}
use Rattle.serve.specs.declared.open_socket.OpenSocket.{OpenSocket}
use Rattle.serve.proofs.Closings.{room_may_close}
use Rattle.serve.proofs.Keeps.{recounted}
use Rattle.serve.proofs.Open.{one_closed, within_at}
use Rattle.serve.proofs.serving.Serving.make_room.Goals as goal

pub returns-clause-serving : goal.returns-clause-serving
returns-clause-serving g c = λ lacks configs same at.
    let lt : c.in-Some.place < length c.args.self.now.connections.items =
    subst (λ (cs : List OpenSocket). c.in-Some.place < length cs) c.deref.ensures.value c.in-Some.ensures.place in
    let one : c.remove-silent.result.socket.instance < c.args.self.now.instances =
    within_at _ c.args.self.now.connections.items _ _ _ c.in-Some.place c.remove-silent.result lt c.remove-silent.ensures.value
    c.requires.opened in
    let longest : (l : LoneInstance) → StandsAt c.args.instance c.args.self.now.counting.server.instances l →
    IsLongestSilent c.args.instance c.args.self.now.moment l c.args.self.now.connections.items (Some c.in-Some.place) = λ l stands.
    subst (λ (cs : List OpenSocket). IsLongestSilent c.args.instance c.args.self.now.moment l cs (Some c.in-Some.place))
    c.deref.ensures.value (c.in-Some.ensures.longest l stands) in
    c.close.ensures.serving
    (room_may_close configs _ _ c.args.self.now.counting c.args.self.now.moment c.args.instance _ c.args.self.now.connections.items _
    c.in-Some.place c.remove-silent.result (omega (arith, same, c.requires.one)) at lacks c.requires.opened lt
    c.remove-silent.ensures.value longest)
    configs (omega (arith, one, same))
    (recounted configs _ _ c.args.self.now.counting c.args.self.now.moment c.add.new.self at)

pub returns-clause-opened : goal.returns-clause-opened
returns-clause-opened g c =
    let lt : c.in-Some.place < length c.args.self.now.connections.items =
    subst (λ (cs : List OpenSocket). c.in-Some.place < length cs) c.deref.ensures.value c.in-Some.ensures.place in
    one_closed _ _ _ c.args.self.now.connections.items _ _ _ c.in-Some.place c.remove-silent.result lt c.remove-silent.ensures.value
    c.remove-silent.ensures.by_index.2 (λ count before after next. c.close.ensures.closes count before c.remove-silent.result after next
    c.args.self.now.moment refl) c.requires.opened
