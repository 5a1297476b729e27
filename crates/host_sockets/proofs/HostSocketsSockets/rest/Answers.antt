use Rattle.host_sockets.proofs.Carried.{told_carries}
use Rattle.host_sockets.proofs.HostSocketsSockets.rest.Goals as goal

pub returns-clause-carries : goal.returns-clause-carries
returns-clause-carries g c = told_carries g.H.Door.Wire.Wire.happened c.args.self.now.ports.items
    c.look.new.self.ports.items c.look.ensures.stay
