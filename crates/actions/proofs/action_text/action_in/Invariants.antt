use Rattle.std.proofs.Common.{◌≡◌}
use Rattle.protobuf_wire.specs.Reading.{record_at, items_left, records_of, count_left}
use Rattle.execution_messages.specs.Actions.{action_shown}
use Rattle.input_tree.specs.NodeTexts.{with_left}
use Rattle.actions.specs.ActionTexts.{action_after, no_action}
use Rattle.actions.proofs.action_text.action_in.Given as goal

abbrev pub invariant-records : goal.invariant-records
invariant-records l = with_left action_after (action_shown l.action) (items_left record_at l.reader)
    ≡ with_left action_after no_action (records_of l.text)

abbrev pub decreases-records : goal.decreases-records
decreases-records l = count_left l.reader
