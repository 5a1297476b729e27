use Rattle.std.proofs.Common.{◌≡◌, map, length, option_map}
use Rattle.protobuf_wire.specs.Shown.{record_shown}
use Rattle.protobuf_wire.specs.Fields.{payloads, bytes_as_sent}
use Rattle.protobuf_wire.specs.Joining.{payloads_after}
use Rattle.protobuf_wire.proofs.fields.as_sent.Given as goal

abbrev pub invariant-records : goal.invariant-records
invariant-records l = payloads_after (option_map (λ v. v.items) l.joined) (payloads l.field (map record_shown l.left))
    ≡ bytes_as_sent l.field (map record_shown l.records)

abbrev pub decreases-records : goal.decreases-records
decreases-records l = length l.left
