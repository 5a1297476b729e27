use Rattle.host_sockets.proofs.Carried.{now_carries}
use Rattle.host_sockets.proofs.HostSocketsSockets.now.Goals as goal

pub returns-clause-carries : goal.returns-clause-carries
returns-clause-carries g c = now_carries g.H.Door.Wire.Wire.happened c.args.self.now.ports.items
    c.go_on.new.self.ports.items c.go_on.ensures.open
