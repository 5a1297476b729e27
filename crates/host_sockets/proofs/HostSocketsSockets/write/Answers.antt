use Rattle.host_sockets.proofs.Carried.{write_carries}
use Rattle.host_sockets.proofs.HostSocketsSockets.write.Goals as goal

pub returns-clause-carries : goal.returns-clause-carries
returns-clause-carries g c = rw c.count.ensures.ports
    (write_carries g.H.Door.Wire.Wire.happened c.args.self.now.ports.items
    c.write_now-outcome.new.self.ports.items c.args.socket c.write_now-outcome.result
    c.args.bytes.now c.write_now-outcome.ensures.others c.write_now-outcome.ensures.own)
