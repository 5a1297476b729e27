use Rattle.std.proofs.Common.{ap}
use Rattle.host_sockets.proofs.Unread.{after_reserve, all_hold, entries_of}
use Rattle.host_sockets.proofs.open_wires.OpenWires.reserve.Goals as goal

pub invariant_of-self : goal.invariant_of-self
invariant_of-self g c = after_reserve c.self.inside.table c.reserve.new.self c.self.inside.unread c.reserve.ensures.entries c.self.invariant

pub returns-clause-same : goal.returns-clause-same
returns-clause-same g c = all_hold c.self.inside.table c.reserve.new.self c.args.self.now.entries c.reserve.ensures.entries
    (ap entries_of c.self.view_is)
