use Rattle.std.proofs.Common.{◌≡◌, take}
use Rattle.std.specs.Prelude.{map}
use Rattle.served_instance.specs.Connections.{AreApart}
use Rattle.served_instance.specs.Lone.{LoneInstance}
use Rattle.served_instance.specs.Slots.{HasConnections}
use Rattle.server_core.specs.Shown.{sent_shown}
use Rattle.server_core.specs.Notes.{sent_bytes_with_all}
use Rattle.server_core.proofs.record.gather.Given as goal

abbrev pub invariant-loop-connection : goal.invariant-loop-connection
invariant-loop-connection l = (m : LoneInstance) → HasConnections l.instance m → AreApart m.connections →
    map sent_shown l.sent.items ≡ sent_bytes_with_all m (take l.connection-index l.live) (map sent_shown l.fn.sent.items)
