use Rattle.std.proofs.Common.{ap}
use Rattle.host_sockets.proofs.Unread.{after_remove, entries_of, others_hold}
use Rattle.host_sockets.proofs.open_wires.OpenWires.remove.Goals as goal

pub invariant_of-self-2 : goal.invariant_of-self-2
invariant_of-self-2 g c = after_remove c.args.connection c.self.inside.table c.remove.new.self c.in_ok-watched.watched
    c.self.inside.unread c.counted-self-inside.result c.len.result c.may_read.result c.remove.ensures.entries
    c.in_ok-watched.ensures.value c.may_read.ensures c.self.invariant c.len.ensures.len c.counted-self-inside.ensures

pub returns-clause-others : goal.returns-clause-others
returns-clause-others g c = others_hold c.args.connection c.self.inside.table c.remove.new.self c.args.self.now.entries _
    c.remove.ensures.updates (ap entries_of c.self.view_is)
