use Rattle.std.proofs.Common.{◌<◌, length, sym, arith}
use Rattle.std.proofs.lemmas.Option.{slice_get_within}
use Rattle.instance_core.specs.Calls.{Calls}
use Rattle.instance_core.specs.Watching.{watched_numbers}
use Rattle.instance_core.proofs.Telling.{watched_all, watched_next}
use Rattle.instance_core.proofs.calls.Calls.watched.Goals as goal

pub calls-preserved : goal.calls-preserved
calls-preserved c =
    let calls : Calls = c.args.self.now in
    let within : c.calls.place < length calls = slice_get_within calls c.calls.place (c.in-Some._id.now, c.in-Some.call.now)
    (sym c.in-Some.ensures.there) in
    record {
      numbers = watched_next calls c.calls.place (c.in-Some._id.now, c.in-Some.call.now) c.calls.numbers.items
          c.add_watched.new.numbers.items (watched_numbers calls) c.in-Some.ensures.there
          (c.in_ok-add_watched.ensures c.in-Some._id.now) c.calls.invariant.numbers;
      within = omega (arith, within);
    }

pub returns : goal.returns
returns c =
    let calls : Calls = c.args.self.now in
    watched_all calls c.calls.place c.calls.numbers.items (watched_numbers calls) c.in_default.ensures.there c.calls.invariant.numbers
