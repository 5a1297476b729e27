use Rattle.std.proofs.Common.{◌≡◌, ◌+◌, ◌≤◌, length, Ok}
use Rattle.protobuf_wire.specs.Reading.{record_at, items_left, records_of, count_left}
use Rattle.input_tree.specs.Taken.{taken_shown}
use Rattle.input_tree.specs.Taking.{last_of, with_nodes_left}
use Rattle.input_tree.proofs.taking.take_some.Given as goal

abbrev pub invariant-records : goal.invariant-records
invariant-records l = record {
  same : with_nodes_left (taken_shown l.taken) (items_left record_at l.reader)
      ≡ with_nodes_left (taken_shown l.fn.taken) (records_of l.text);
  last : l.reader ≡ Ok (last_of (count_left l.reader) l.text);
  few : l.count + count_left l.reader ≤ length l.text;
}

abbrev pub decreases-records : goal.decreases-records
decreases-records l = count_left l.reader
