use Rattle.std.proofs.Common.{ap, subst, ℕ, List}
use Rattle.wires.specs.Wires.{write_events}
use Rattle.host_sockets.specs.declared.watched.Watched.{Watched}
use Rattle.host_sockets.specs.Ports.{HappensOn, on}
use Rattle.host_sockets.proofs.Connections.{written}
use Rattle.host_sockets.proofs.Unread.{after_same, entries_of}
use Rattle.host_sockets.proofs.open_wires.OpenWires.write.Goals as goal

pub invariant_of-self-2 : goal.invariant_of-self-2
invariant_of-self-2 g c = after_same c.args.connection c.self.inside.table _ c.in-Some.watched.now c.write.new.self
    c.self.inside.unread (c.get_mut.follows.holds c.write.new.self) c.in-Some.ensures.value c.write.ensures.reading
    c.self.invariant

pub returns-clause-own : goal.returns-clause-own
returns-clause-own g c = subst
    (λ (es : List (ℕ × Watched g.row.W.Denot)). HappensOn (on g.W.Wire.happened) c.args.connection
    (write_events c.write.result c.args.bytes.now) es
    (c.get_mut.follows.lender c.write.new.self).entries)
    (ap entries_of c.self.view_is)
    (written (on g.W.Wire.happened) c.args.connection _ c.self.inside.table _ c.in-Some.watched.now c.write.new.self
    (c.get_mut.follows.holds c.write.new.self) c.in-Some.ensures.value c.write.ensures.adds)
