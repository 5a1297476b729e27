use Rattle.host_sockets.specs.Told.{AreTold}
use Rattle.host_sockets.proofs.Told.{FirstPassed}
use Rattle.host_sockets.proofs.port.tell.Given as goal

abbrev pub invariant-loop-nth : goal.invariant-loop-nth
invariant-loop-nth g l = AreTold l.fn.ports l.ports × FirstPassed l.nth (g.H.Host.learned l.host) l.ports
