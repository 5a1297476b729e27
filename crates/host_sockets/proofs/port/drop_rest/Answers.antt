use Rattle.host_sockets.proofs.Left.{ports_stay, stay_again}
use Rattle.host_sockets.proofs.Ports.{one_more}
use Rattle.host_sockets.proofs.port.drop_rest.Goals as goal

pub loop-port-init : goal.loop-port-init
loop-port-init g c = ports_stay g.D.Wire.Wire.happened c.args.ports.now

pub loop-port-preserved : goal.loop-port-preserved
loop-port-preserved g c = one_more _ (stay_again g.D.Wire.Wire.happened)
    c.args.ports.now c.loop-port.ports c.loop-port.port-index
    c.port-item.result c.drop_rest.new.self c.port-item.is c.drop_rest.ensures
    c.loop-port.invariant
