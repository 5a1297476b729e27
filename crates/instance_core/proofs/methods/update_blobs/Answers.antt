use Rattle.std.specs.Prelude.{string_bytes}
use Rattle.cas_service.specs.BatchUpdate.{blobs_sent, update_reply}
use Rattle.instance_limits.specs.Shown.{limits_value}
use Rattle.instance_core.proofs.Parts.{stores_answered}
use Rattle.instance_core.proofs.Carrying.{carries_stores}
use Rattle.instance_core.proofs.methods.update_blobs.Goals as goal

pub returns : goal.returns
returns c = record {
  carried =
      λ parent.
      let settings = c.args.settings.now in
      let p = c.args.pool.now in
      let q = c.batch_update-outcome.new.pool in
      let own = string_bytes settings.name in
      let old = c.args.contents.now in
      let view = c.batch_update-outcome.new.view in
      let outcome = c.batch_update-outcome in
      let reply = rw c.deref.ensures at outcome.ensures.reply in
      let stored = rw c.deref.ensures at outcome.ensures.stored in
      let memory = rw c.deref.ensures at outcome.ensures.memory in
      rw c.one_message.ensures
      (carries_stores settings parent c.args.message.now p q old view outcome.result c.requires.kept reply
      (stores_answered outcome.result (blobs_sent own c.args.message.now)
      (λ sent. update_reply sent.function settings.quota sent.requests) old.view.limit
      (limits_value settings.limits).blobs settings.quota p q old.view view c.requires.kept.limit reply stored outcome.ensures.refused)
      memory outcome.ensures.moves outcome.ensures.limit outcome.ensures.kept);
}
