use Rattle.host_sockets.proofs.Ports.{one_becomes, one_changes}
use Rattle.host_sockets.proofs.HostSockets.write_now.Goals as goal

pub returns-in-Some-clause-others : goal.returns-in-Some-clause-others
returns-in-Some-clause-others g c = one_changes _ c.args.socket.instance c.in-Some.port.now
    c.write.new.self c.in-Some.ensures.value c.write.ensures.address

pub returns-in-Some-clause-own : goal.returns-in-Some-clause-own
returns-in-Some-clause-own g c = one_becomes _ _ c.args.socket.instance c.in-Some.port.now
    c.write.new.self c.in-Some.ensures.value (
      c.write.ensures.own,
      c.write.ensures.door,
      c.write.ensures.lingering,
    )
