use denote.Shadow.{shadow}
use denote.Text.{Utf8}
use Rattle.std.proofs.Common.{◌≡◌, [], map, length}
use Rattle.protobuf_wire.specs.Shown.{record_shown}
use Rattle.protobuf_wire.specs.Fields.{repeated_string}
use Rattle.protobuf_wire.proofs.Lists.{last_after}
use Rattle.protobuf_wire.proofs.fields.string.Given as goal

abbrev pub invariant-records : goal.invariant-records
invariant-records l = (last_after l.last (repeated_string l.field (map record_shown l.left))
    ≡ last_after [] (repeated_string l.field (map record_shown l.records))) × shadow (Utf8 l.last)

abbrev pub decreases-records : goal.decreases-records
decreases-records l = length l.left
