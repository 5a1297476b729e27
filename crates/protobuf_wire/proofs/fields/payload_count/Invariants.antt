use Rattle.std.proofs.Common.{◌≡◌, ◌≤◌, ◌+◌, map, length}
use Rattle.protobuf_wire.specs.Shown.{record_shown}
use Rattle.protobuf_wire.specs.Fields.{payloads}
use Rattle.protobuf_wire.proofs.fields.payload_count.Given as goal

abbrev pub invariant-records : goal.invariant-records
invariant-records l = (l.count + length (payloads l.field (map record_shown l.left))
    ≡ length (payloads l.field (map record_shown l.records))) × (l.count + length l.left ≤ length l.records)

abbrev pub decreases-records : goal.decreases-records
decreases-records l = length l.left
