use Rattle.std.proofs.Common.{◌≡◌, ◌≤◌, map, take, length}
use Rattle.protobuf_wire.specs.Reading.{record_at, items_left, records_of, count_left}
use Rattle.protobuf_wire.specs.Shown.{record_shown}
use Rattle.protobuf_wire.proofs.Lists.{after}
use Rattle.protobuf_wire.proofs.fields.read_few.Given as goal

abbrev pub invariant-loop-field : goal.invariant-loop-field
invariant-loop-field l = (after (map record_shown (take l.count l.few)) (items_left record_at l.reader) ≡ records_of l.text)
    × (l.count ≤ length l.few)

abbrev pub decreases-loop-field : goal.decreases-loop-field
decreases-loop-field l = count_left l.reader
