use Rattle.std.proofs.Common.{◌≡◌, map, length, None, option_map}
use Rattle.protobuf_wire.specs.Shown.{record_shown}
use Rattle.protobuf_wire.specs.Fields.{payloads}
use Rattle.protobuf_wire.specs.Joining.{joined_records}
use Rattle.protobuf_wire.proofs.fields.joined.Given as goal

abbrev pub invariant-records : goal.invariant-records
invariant-records l = joined_records (option_map (λ v. map record_shown v.items) l.joined) (payloads l.field (map record_shown l.left))
    ≡ joined_records None (payloads l.field (map record_shown l.records))

abbrev pub decreases-records : goal.decreases-records
decreases-records l = length l.left
