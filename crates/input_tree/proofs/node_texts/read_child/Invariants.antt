use Rattle.std.proofs.Common.{◌≡◌}
use Rattle.protobuf_wire.specs.Reading.{record_at, items_left, records_of, count_left}
use Rattle.tree_messages.specs.Directories.{directory_node_shown}
use Rattle.input_tree.specs.NodeTexts.{with_left, child_after, no_child}
use Rattle.input_tree.proofs.node_texts.read_child.Given as goal

abbrev pub invariant-records : goal.invariant-records
invariant-records l = with_left child_after (directory_node_shown l.node) (items_left record_at l.reader)
    ≡ with_left child_after no_child (records_of l.text)

abbrev pub decreases-records : goal.decreases-records
decreases-records l = count_left l.reader
