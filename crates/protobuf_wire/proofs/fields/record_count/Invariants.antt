use Rattle.std.proofs.Common.{◌≡◌, ◌≤◌, ◌+◌, length}
use Rattle.protobuf_wire.specs.Reading.{record_at, items_left, records_of, count_left}
use Rattle.protobuf_wire.proofs.Lists.{counted}
use Rattle.protobuf_wire.proofs.fields.record_count.Given as goal

abbrev pub invariant-loop-field : goal.invariant-loop-field
invariant-loop-field l = (counted l.count (items_left record_at l.reader) ≡ counted 0 (records_of l.text))
    × (l.count + count_left l.reader ≤ length l.text)

abbrev pub decreases-loop-field : goal.decreases-loop-field
decreases-loop-field l = count_left l.reader
