use Rattle.std.proofs.Common.{ap, subst, ℕ, List}
use Rattle.host_sockets.specs.declared.watched.Watched.{Watched}
use Rattle.host_sockets.specs.Ports.{Turns, wire_at}
use Rattle.host_sockets.specs.Told.{IsTold}
use Rattle.host_sockets.proofs.Connections.{told_one}
use Rattle.host_sockets.proofs.Unread.{after_write, entries_of}
use Rattle.host_sockets.proofs.open_wires.OpenWires.tell.Goals as goal

pub invariant_of-self : goal.invariant_of-self
invariant_of-self g c = after_write c.args.connection c.self.inside.table _ c.in-Some.watched.now c.tell.new.self
    c.self.inside.unread c.counted-self-inside.result c.len.result c.may_read-was_unread.result c.may_read-is_unread.result
    (c.get_mut.follows.holds c.tell.new.self) c.in-Some.ensures.value c.may_read-was_unread.ensures c.may_read-is_unread.ensures
    c.self.invariant c.len.ensures.len c.counted-self-inside.ensures

pub returns-in-Some-clause-stay : goal.returns-in-Some-clause-stay
returns-in-Some-clause-stay g c = λ d. subst
    (λ (es : List (ℕ × Watched g.row.W.Denot)). Turns IsTold (wire_at d es) (wire_at d (c.get_mut.follows.lender c.tell.new.self).entries))
    (ap entries_of c.self.view_is)
    (told_one c.args.connection c.args.news.now c.self.inside.table _ c.in-Some.watched.now c.tell.new.self
    (c.get_mut.follows.holds c.tell.new.self) c.in-Some.ensures.value c.tell.ensures.wire c.tell.ensures.may_read
    c.tell.ensures.may_write d)
