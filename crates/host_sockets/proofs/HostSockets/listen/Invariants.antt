use Rattle.std.proofs.Common.{take}
use Rattle.host_sockets.specs.Ports.{AreAt, ListensAt, NoneIsOpen}
use Rattle.host_sockets.proofs.HostSockets.listen.Given as goal

abbrev pub invariant-ports : goal.invariant-ports
invariant-ports g l = ListensAt l.ip (take l.port-index l.ports) l.sockets
    × AreAt g.H.Door.Door.at l.sockets.ports.items × NoneIsOpen l.sockets.ports.items
