use Rattle.std.proofs.Common.{ap, ◌∙◌, ◌+◌, ◌<◌, length}
use Rattle.std.proofs.lemmas.List.{length_push}
use Rattle.std.proofs.lemmas.List.Elements.{All-push, All-same}
use Rattle.server_core.specs.Records.{RecordValue}
use Rattle.server_core.proofs.Begins.{begun_more, none_counted}
use Rattle.server_core.proofs.whole_run.new_records.Goals as goal

pub loop-preserved : goal.loop-preserved
loop-preserved c =
    let old = c.loop.invariant in
    let more = c.in_ok-push.ensures.items in
    record {
      count = ap length more ∙ length_push _ _ ∙ ap (λ k. k + 1) old.count;
      begun = begun_more _ _ _ _ old.count more old.begun c.new.ensures;
      room = All-same (λ (r : RecordValue). r.count < 1) _ _ more
          (All-push (λ (r : RecordValue). r.count < 1) _ _ old.room (none_counted _ c.new.ensures));
    }
