use Rattle.std.proofs.Common.{◌≡◌, take, drop, ◌++◌}
use Rattle.std.specs.Prelude.{map}
use Rattle.served_instance.specs.Connections.{AreApart}
use Rattle.served_instance.specs.Lone.{LoneInstance}
use Rattle.served_instance.specs.Slots.{HasConnections}
use Rattle.server_core.specs.Notes.{record_after_noting}
use Rattle.server_core.proofs.record.count_untaken.Given as goal

abbrev pub invariant-loop-connection : goal.invariant-loop-connection
invariant-loop-connection l = (m : LoneInstance) → HasConnections l.instance m → AreApart m.connections →
    l.live ≡ map (record_after_noting m) (take l.connection-index l.fn.live) ++ drop l.connection-index l.fn.live
