use Rattle.std.proofs.Common.{arith}
use Rattle.host_sockets.proofs.Ports.{added_at, added_unopened}
use Rattle.host_sockets.proofs.HostSockets.add_port.Goals as goal

pub returns-clause-doors : goal.returns-clause-doors
returns-clause-doors g c = added_at g.H.Door.Door.at c.args.self.now.ports.items
    c.push.new.self.items c.in_ok-port.port c.in_ok-door.door c.args.address c.len.result
    c.in_ok-push.ensures.items (omega (arith, c.len.ensures, c.len.type_inv))
    c.in_ok-port.ensures.door c.in_ok-port.ensures.address c.in_ok-door.ensures.at c.requires.doors

pub returns-clause-unopened : goal.returns-clause-unopened
returns-clause-unopened g c = added_unopened c.args.self.now.ports.items c.push.new.self.items
    c.in_ok-port.port c.in_ok-push.ensures.items c.in_ok-port.ensures.none c.requires.unopened
