use Rattle.std.proofs.Common.{◌≡◌}
use Rattle.protobuf_wire.specs.Reading.{record_at, items_left, records_of, count_left}
use Rattle.execution_messages.specs.Actions.{environment_variable_shown}
use Rattle.input_tree.specs.NodeTexts.{with_left}
use Rattle.actions.specs.Texts.{variable_after, no_variable}
use Rattle.actions.proofs.command_text.read_variable.Given as goal

abbrev pub invariant-records : goal.invariant-records
invariant-records l = with_left variable_after (environment_variable_shown l.variable) (items_left record_at l.reader)
    ≡ with_left variable_after no_variable (records_of l.text)

abbrev pub decreases-records : goal.decreases-records
decreases-records l = count_left l.reader
