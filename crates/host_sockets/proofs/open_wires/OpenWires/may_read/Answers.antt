use Rattle.std.proofs.Common.{ap}
use Rattle.host_sockets.proofs.Unread.{entries_of, has_unread}
use Rattle.host_sockets.proofs.open_wires.OpenWires.may_read.Goals as goal

pub returns : goal.returns
returns g c = has_unread c.self.inside.table.entries c.args.self.now.entries c.self.inside.unread c.self.invariant
    (ap entries_of c.self.view_is)
