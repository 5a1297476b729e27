use Rattle.std.proofs.Common.{◌≡◌, ◌≤◌}
use Rattle.protobuf_wire.specs.Reading.{count_left}
use Rattle.cas_service.specs.Entries.{entries_left}
use Rattle.cas_service.proofs.entries.next_entry.Given as goal

abbrev pub invariant-records : goal.invariant-records
invariant-records g l = (entries_left g.M.Message.value_of l.reader ≡ entries_left g.M.Message.value_of l.fn.reader)
    × (count_left l.reader ≤ count_left l.fn.reader)

abbrev pub decreases-records : goal.decreases-records
decreases-records g l = count_left l.reader
