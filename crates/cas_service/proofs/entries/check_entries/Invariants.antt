use Rattle.std.proofs.Common.{◌≡◌}
use Rattle.protobuf_wire.specs.Reading.{count_left}
use Rattle.cas_service.specs.Entries.{entries_left, form_of}
use Rattle.cas_service.proofs.entries.check_entries.Given as goal

abbrev pub invariant-entries : goal.invariant-entries
invariant-entries g l = form_of (entries_left g.M.Message.value_of l.reader) ≡ form_of (entries_left g.M.Message.value_of l.fn.reader)

abbrev pub decreases-entries : goal.decreases-entries
decreases-entries g l = count_left l.reader
