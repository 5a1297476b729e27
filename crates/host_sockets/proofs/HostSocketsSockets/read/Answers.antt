use Rattle.host_sockets.proofs.Carried.{read_carries}
use Rattle.host_sockets.proofs.HostSocketsSockets.read.Goals as goal

pub returns-clause-carries : goal.returns-clause-carries
returns-clause-carries g c = rw c.count.ensures.ports
    (read_carries g.H.Door.Wire.Wire.happened c.args.self.now.ports.items
    c.read_now-outcome.new.self.ports.items c.args.socket c.read_now-outcome.result
    c.read_now-outcome.new.room c.read_now-outcome.ensures.others c.read_now-outcome.ensures.own)
