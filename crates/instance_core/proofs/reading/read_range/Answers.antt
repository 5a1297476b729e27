use Rattle.std.proofs.Common.{arith}
use Rattle.instance_core.proofs.Ranges.{room_kept}
use Rattle.instance_core.proofs.Carrying.{carries_range}
use Rattle.instance_core.proofs.reading.read_range.Goals as goal

pub read-outcome-requires-clause-room : goal.read-outcome-requires-clause-room
read-outcome-requires-clause-room c = room_kept c.args.settings.now.quota c.args.pool.now c.args.contents.now.view c.requires.kept.kept
    (omega (arith, c.requires.kept.limit, c.args.settings.now.limits.few_blobs))

pub returns : goal.returns
returns c = record {
  carried =
      let settings = c.args.settings.now in
      let p = c.args.pool.now in
      let outcome = c.read-outcome in
      let answer = rw c.deref.ensures at outcome.ensures.answer in
      rw c.range.ensures
      (carries_range settings c.args.parent.now c.args.message.now p outcome.new.pool c.args.contents.now outcome.new.view outcome.result
      c.requires.kept answer
      (λ k. rw c.deref.ensures at outcome.ensures.used k) outcome.ensures.memory outcome.ensures.there outcome.ensures.holds
      outcome.ensures.err outcome.ensures.holders outcome.ensures.limit);
}
