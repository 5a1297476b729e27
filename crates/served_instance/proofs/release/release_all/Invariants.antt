use Rattle.std.proofs.Common.{List, map, take}
use Rattle.grpc_sending.specs.StoredSending.{SourceTexts}
use Rattle.served_instance.specs.Connections.{LoneConnection}
use Rattle.served_instance.specs.Ranges.{AreTidy, Releases}
use Rattle.served_instance.specs.Shown.{connection_shown}
use Rattle.served_instance.specs.StandsFor.{AreServed}
use Rattle.served_instance.proofs.release.release_all.Given as goal

abbrev pub invariant-loop-kept : goal.invariant-loop-kept
invariant-loop-kept l = record {
  stands : (texts : SourceTexts) (ls : List LoneConnection) → AreServed texts (map connection_shown l.fn.connections) ls →
      AreServed texts (map connection_shown l.connections) ls;
  releases : Releases l.fn.pool (map connection_shown l.fn.connections) l.pool (map connection_shown l.connections);
  tidy : AreTidy (map connection_shown (take l.kept-index l.connections));
}
