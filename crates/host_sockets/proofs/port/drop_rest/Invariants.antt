use Rattle.host_sockets.specs.Ports.{OpenStay}
use Rattle.host_sockets.proofs.port.drop_rest.Given as goal

abbrev pub invariant-loop-port : goal.invariant-loop-port
invariant-loop-port g l = OpenStay g.D.Wire.Wire.happened l.fn.ports l.ports
