use Rattle.std.proofs.Common.{ap}
use Rattle.host_sockets.proofs.Unread.{after_insert, entries_of, others_hold}
use Rattle.host_sockets.proofs.open_wires.OpenWires.insert.Goals as goal

pub invariant_of-self : goal.invariant_of-self
invariant_of-self g c = after_insert c.args.connection c.self.inside.table c.insert.new.self c.args.watched c.in-Ok.before
    c.self.inside.unread c.counted-self-inside.result c.len.result c.is_some_unread-was_unread.result c.may_read-is_unread.result
    c.in-Ok.ensures.old c.in-Ok.ensures.entries c.is_some_unread-was_unread.ensures c.may_read-is_unread.ensures c.self.invariant c.len.ensures.len
    c.counted-self-inside.ensures

pub returns-clause-others : goal.returns-clause-others
returns-clause-others g c = others_hold c.args.connection c.self.inside.table c.insert.new.self c.args.self.now.entries _
    c.in-Ok.ensures.updates (ap entries_of c.self.view_is)
