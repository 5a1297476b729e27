use Rattle.std.proofs.Common.{◌≡◌}
use Rattle.protobuf_wire.specs.Reading.{record_at, items_left, records_of, count_left}
use Rattle.cas_service.specs.Entries.{head_shown, no_head, with_heads_left}
use Rattle.cas_service.proofs.entries.read_head.Given as goal

abbrev pub invariant-records : goal.invariant-records
invariant-records l = with_heads_left l.function_field (head_shown l.head) (items_left record_at l.reader)
    ≡ with_heads_left l.function_field no_head (records_of l.message)

abbrev pub decreases-records : goal.decreases-records
decreases-records l = count_left l.reader
