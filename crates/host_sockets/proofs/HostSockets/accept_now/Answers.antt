use Rattle.host_sockets.proofs.Ports.{one_becomes, one_changes}
use Rattle.host_sockets.proofs.HostSockets.accept_now.Goals as goal

pub returns-in-Some-clause-others : goal.returns-in-Some-clause-others
returns-in-Some-clause-others g c = one_changes _ c.args.socket.instance c.in-Some.port.now
    c.accept.new.self c.in-Some.ensures.value c.accept.ensures.address

pub returns-in-Some-clause-own : goal.returns-in-Some-clause-own
returns-in-Some-clause-own g c = one_becomes _ _ c.args.socket.instance c.in-Some.port.now
    c.accept.new.self c.in-Some.ensures.value (
      c.accept.ensures.own,
      c.accept.ensures.at,
      c.accept.ensures.lingering,
    )
