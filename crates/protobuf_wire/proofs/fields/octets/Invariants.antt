use Rattle.std.proofs.Common.{◌≡◌, [], map, length}
use Rattle.protobuf_wire.specs.Shown.{record_shown}
use Rattle.protobuf_wire.specs.Fields.{payloads, last_or}
use Rattle.protobuf_wire.proofs.fields.octets.Given as goal

abbrev pub invariant-records : goal.invariant-records
invariant-records l = last_or l.last (payloads l.field (map record_shown l.left))
    ≡ last_or [] (payloads l.field (map record_shown l.records))

abbrev pub decreases-records : goal.decreases-records
decreases-records l = length l.left
