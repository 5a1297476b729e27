use Rattle.std.proofs.Common.{◌≡◌, map}
use Rattle.protobuf_wire.specs.Reading.{record_at, items_left, records_of, count_left}
use Rattle.protobuf_wire.specs.Shown.{record_shown}
use Rattle.protobuf_wire.proofs.Lists.{after}
use Rattle.protobuf_wire.proofs.fields.fields_of.Given as goal

abbrev pub invariant-loop-fields : goal.invariant-loop-fields
invariant-loop-fields l = after (map record_shown l.fields.items) (items_left record_at l.reader) ≡ records_of l.text

abbrev pub decreases-loop-fields : goal.decreases-loop-fields
decreases-loop-fields l = count_left l.reader
