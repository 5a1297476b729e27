use Rattle.std.proofs.Common.{◌≡◌, ◌≢◌}
use Rattle.serve.specs.KeepsOpen.{StayOpenAs}
use Rattle.serve.specs.KeepsServing.{KeepsServingAt}
use Rattle.serve.specs.declared.exchange.Tried.TheVariants.{Over}
use Rattle.serve.proofs.exchange.receive_all.Given as goal

abbrev pub invariant-loop : goal.invariant-loop
invariant-loop g l = record {
  serving : KeepsServingAt l.fn.opened.socket.instance (g.S.Sockets.happened l.fn.sockets)
      (g.R.Runs.happened l.fn.runs) l.fn.counting l.moment (g.S.Sockets.happened l.sockets)
      (g.R.Runs.happened l.runs) l.counting l.moment;
  no_fault : g.R.Runs.faulted l.runs ≡ g.R.Runs.faulted l.fn.runs;
  stays : StayOpenAs l.moment l.fn.opened l.opened (g.S.Sockets.happened l.fn.sockets)
      (g.S.Sockets.happened l.sockets);
  socket : l.opened.socket ≡ l.fn.opened.socket;
  going : l.tried ≢ Over;
}
