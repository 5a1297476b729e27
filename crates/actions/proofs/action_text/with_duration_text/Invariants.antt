use Rattle.std.proofs.Common.{◌≡◌}
use Rattle.protobuf_wire.specs.Reading.{record_at, items_left, records_of, count_left}
use Rattle.execution_messages.specs.Actions.{duration_shown}
use Rattle.input_tree.specs.NodeTexts.{with_left}
use Rattle.actions.specs.ActionTexts.{duration_after}
use Rattle.actions.proofs.action_text.with_duration_text.Given as goal

abbrev pub invariant-records : goal.invariant-records
invariant-records l = with_left duration_after (duration_shown l.duration) (items_left record_at l.reader)
    ≡ with_left duration_after (duration_shown l.fn.duration) (records_of l.text)

abbrev pub decreases-records : goal.decreases-records
decreases-records l = count_left l.reader
