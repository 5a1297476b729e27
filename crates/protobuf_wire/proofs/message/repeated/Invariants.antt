use Rattle.std.proofs.Common.{◌≡◌, map, length}
use Rattle.protobuf_wire.specs.Shown.{record_shown}
use Rattle.protobuf_wire.specs.Fields.{repeated_values}
use Rattle.protobuf_wire.proofs.Lists.{after}
use Rattle.protobuf_wire.proofs.message.repeated.Given as goal

abbrev pub invariant-records : goal.invariant-records
invariant-records g l = after (map g.M.Message.shown l.messages.items)
    (repeated_values g.M.Message.value_of l.field (map record_shown l.left))
    ≡ repeated_values g.M.Message.value_of l.field (map record_shown l.records)

abbrev pub decreases-records : goal.decreases-records
decreases-records g l = length l.left
