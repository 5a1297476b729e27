use Rattle.std.proofs.Common.{ap, subst, ℕ, List}
use Rattle.wires.specs.Wires.{read_events}
use Rattle.host_sockets.specs.declared.watched.Watched.{Watched}
use Rattle.host_sockets.specs.Ports.{HappensOn, Turns, on, wire_at}
use Rattle.host_sockets.specs.Told.{StaysTold}
use Rattle.host_sockets.proofs.Connections.{lent, written}
use Rattle.host_sockets.proofs.Unread.{after_write, entries_of}
use Rattle.host_sockets.proofs.open_wires.OpenWires.read.Goals as goal

pub invariant_of-self-2 : goal.invariant_of-self-2
invariant_of-self-2 g c = after_write c.args.connection c.self.inside.table _ c.in-Some.watched.now c.read-outcome.new.self
    c.self.inside.unread c.counted-self-inside.result c.len.result c.may_read-was_unread.result c.may_read-is_unread.result
    (c.get_mut.follows.holds c.read-outcome.new.self) c.in-Some.ensures.value c.may_read-was_unread.ensures
    c.may_read-is_unread.ensures c.self.invariant c.len.ensures.len c.counted-self-inside.ensures

pub returns-clause-own : goal.returns-clause-own
returns-clause-own g c = subst
    (λ (es : List (ℕ × Watched g.row.W.Denot)). HappensOn (on g.W.Wire.happened) c.args.connection
    (read_events c.read-outcome.result c.read-outcome.new.room) es
    (c.get_mut.follows.lender c.read-outcome.new.self).entries)
    (ap entries_of c.self.view_is)
    (written (on g.W.Wire.happened) c.args.connection _ c.self.inside.table _ c.in-Some.watched.now c.read-outcome.new.self
    (c.get_mut.follows.holds c.read-outcome.new.self) c.in-Some.ensures.value c.read-outcome.ensures.adds)

pub returns-clause-told : goal.returns-clause-told
returns-clause-told g c = subst
    (λ (es : List (ℕ × Watched g.row.W.Denot)). Turns (λ w v. StaysTold c.read-outcome.result w.may_read v.may_read)
    (wire_at c.args.connection es) (wire_at c.args.connection (c.get_mut.follows.lender c.read-outcome.new.self).entries))
    (ap entries_of c.self.view_is)
    (lent (λ w v. StaysTold c.read-outcome.result w.may_read v.may_read) c.args.connection c.self.inside.table _
    c.in-Some.watched.now c.read-outcome.new.self (c.get_mut.follows.holds c.read-outcome.new.self) c.in-Some.ensures.value
    c.read-outcome.ensures.told)
