use Rattle.std.proofs.Common.{◌≡◌, Some, Ok, arith, rules}
use Rattle.protobuf_wire.specs.Shown.{record_shown}
use Rattle.protobuf_wire.specs.Reading.{record_at, step}
use Rattle.action_cache.proofs.Looks.{step_left}
use Rattle.action_cache.proofs.TreeRecords.{read_next}
use Rattle.action_cache.proofs.tree_texts.name_directories.Goals as goal

pub records-preserved : goal.records-preserved
records-preserved c =
    let told : Ok (Some (record_shown c.in-Some.entry)) ≡ (step record_at c.records.reader).0 = search rules in
    let left = step_left c.args.field c.records.reader c.next.new.self (record_shown c.in-Some.entry) told c.next.ensures.after in
    let before = c.records.invariant.looks in
    let more = c.name_directory_in.ensures.looks in
    record {
      named = search (rules, read_next);
      looks = omega (arith, left, before, more);
      bytes = search rules;
    }

pub returns-in_err-name_directory_in-clause-looks : goal.returns-in_err-name_directory_in-clause-looks
returns-in_err-name_directory_in-clause-looks c =
    let told : Ok (Some (record_shown c.in-Some.entry)) ≡ (step record_at c.records.reader).0 = search rules in
    let left = step_left c.args.field c.records.reader c.next.new.self (record_shown c.in-Some.entry) told c.next.ensures.after in
    let before = c.records.invariant.looks in
    let more = c.name_directory_in.ensures.looks in
    omega (arith, left, before, more)
