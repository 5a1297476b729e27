use Rattle.std.proofs.Common.{◌≡◌, map, length}
use Rattle.protobuf_wire.specs.Writing.{followed_by_records}
use Rattle.protobuf_wire.specs.Parts.{repeated_field}
use Rattle.protobuf_wire.proofs.message.put_repeated.Given as goal

abbrev pub invariant-messages : goal.invariant-messages
invariant-messages g l = followed_by_records l.writer (repeated_field g.M.Message.records_for l.field (map g.M.Message.shown l.left))
    ≡ followed_by_records l.fn.writer (repeated_field g.M.Message.records_for l.field (map g.M.Message.shown l.messages))

abbrev pub decreases-messages : goal.decreases-messages
decreases-messages g l = length l.left
