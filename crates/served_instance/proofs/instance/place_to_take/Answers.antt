use Rattle.std.proofs.Common.{◌≡◌, ◌<◌, ◌≤◌, sym, ap, ◌∙◌, arith, get_or, length}
use Rattle.conn_core.specs.StandsFor.{ConnectionValue}
use Rattle.served_instance.proofs.Refuses.{enough_waits, take_absent, take_present, too_much}
use Rattle.served_instance.proofs.instance.place_to_take.Goals as goal

pub returns-in-None-clause-refused : goal.returns-in-None-clause-refused
returns-in-None-clause-refused c = take_absent c.args.number c.args.count c.args.connections.now (sym c.find.ensures ∙ c.in-None.is)

pub returns-then-count-pending-clause-refused : goal.returns-then-count-pending-clause-refused
returns-then-count-pending-clause-refused c =
    let os = c.args.connections.now in
    let d = c.index-connections-place.result in
    let v : ConnectionValue = (get_or os c.in-Some.place d).connection in
    let same : length c.pending.result.now ≡ length v.sending.pending = ap length c.pending.ensures.bytes in
    let more : length v.sending.pending < c.args.count = omega (arith, same, c.if-count-pending.true) in
    too_much c.args.count v more ∙ take_present c.args.number c.args.count c.in-Some.place os d (sym c.find.ensures ∙ c.in-Some.is)

pub returns-clause-refused : goal.returns-clause-refused
returns-clause-refused c =
    let os = c.args.connections.now in
    let d = c.index-connections-place.result in
    let v : ConnectionValue = (get_or os c.in-Some.place d).connection in
    let same : length c.pending.result.now ≡ length v.sending.pending = ap length c.pending.ensures.bytes in
    let enough : c.args.count ≤ length v.sending.pending = omega (arith, same, c.if-count-pending.false) in
    enough_waits c.args.count v enough ∙ take_present c.args.number c.args.count c.in-Some.place os d (sym c.find.ensures ∙ c.in-Some.is)
