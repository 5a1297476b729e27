use Rattle.std.proofs.Common.{◌≡◌, List, ◌∷◌, [], length}
use Rattle.server_events.specs.Configs.{ConfigValue}
use Rattle.serve.specs.SocketEvents.{clock, Adds}
use Rattle.serve.specs.KeepsOpen.{HasAllOpen}
use Rattle.serve.specs.KeepsServing.{IsServing}
use Rattle.serve.proofs.Ticks.{IsTicking, Rises, StaysUnknown}
use Rattle.serve.proofs.serving.Serving.tick.Given as goal

abbrev pub invariant-loop-instance : goal.invariant-loop-instance
invariant-loop-instance g l = record {
  ticking : (configs : List ConfigValue) → length configs ≡ l.fn.self.instances →
      IsServing configs (g.S.Sockets.happened l.fn.sockets) (g.R.Runs.happened l.fn.runs) l.fn.self.counting l.fn.self.moment →
      IsTicking configs (g.S.Sockets.happened l.fn.sockets) (g.R.Runs.happened l.fn.runs) l.self.moment l.instance l.self.counting
      (g.R.Runs.happened l.runs);
  unknown : StaysUnknown (g.R.Runs.happened l.fn.runs) (g.R.Runs.happened l.runs);
  adds : Adds (g.S.Sockets.happened l.fn.sockets) (g.S.Sockets.happened l.sockets) (clock l.self.moment ∷ []);
  rises : Rises (g.S.Sockets.happened l.fn.sockets) l.self.moment;
  no_fault : g.R.Runs.faulted l.runs ≡ g.R.Runs.faulted l.fn.runs;
  instances : l.self.instances ≡ l.fn.self.instances;
  opened : HasAllOpen l.self (g.S.Sockets.happened l.sockets);
}
