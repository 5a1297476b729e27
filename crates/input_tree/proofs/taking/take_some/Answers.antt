use Rattle.std.proofs.Common.{◌≡◌, ◌<◌, Ok, Some, arith, rules}
use Rattle.protobuf_wire.specs.Reading.{count_left, record_at, step}
use Rattle.protobuf_wire.specs.Shown.{record_shown}
use Rattle.input_tree.proofs.Records.{left_next, next_last}
use Rattle.input_tree.proofs.taking.take_some.Goals as goal

pub records-preserved : goal.records-preserved
records-preserved c =
    let few = c.records.invariant.few in
    let less : count_left c.next.new.self < count_left c.records.reader = search rules in
    let answer : Ok (Some (record_shown c.in-Some.entry)) ≡ (step record_at c.records.reader).0 = search rules in
    record {
      same = search (rules, left_next);
      last = next_last c.args.text.now c.records.reader c.next.new.self (record_shown c.in-Some.entry) c.records.invariant.last answer
          c.next.ensures.after;
      few = omega (arith, few, less);
    }
