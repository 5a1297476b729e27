use Rattle.std.proofs.Common.{◌≡◌, map, length}
use Rattle.protobuf_wire.specs.Shown.{record_shown}
use Rattle.protobuf_wire.specs.Fields.{numbers, last_or}
use Rattle.protobuf_wire.proofs.fields.number.Given as goal

abbrev pub invariant-records : goal.invariant-records
invariant-records l = last_or l.last (numbers l.field (map record_shown l.left)) ≡ last_or 0 (numbers l.field (map record_shown l.records))

abbrev pub decreases-records : goal.decreases-records
decreases-records l = length l.left
