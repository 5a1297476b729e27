use Rattle.std.proofs.Common.{◌++◌, refl}
use Rattle.std.specs.Prelude.{string_bytes}
use Rattle.instance_view.specs.Shown.{visible_in}
use Rattle.cas_service.specs.BatchRead.{digests_to_read, read_reply}
use Rattle.rpc.specs.declared.method.Method.TheVariants.{BatchReadBlobs}
use Rattle.instance_core.proofs.Carrying.{carries_uses}
use Rattle.instance_core.proofs.methods.read_blobs.Goals as goal

pub returns : goal.returns
returns c = record {
  carried =
      let settings = c.args.settings.now in
      let p = c.args.pool.now in
      let own = string_bytes settings.name in
      let old = c.args.contents.now in
      let view = c.batch_read-outcome.new.view in
      let seen = visible_in p old.view ++ visible_in p c.args.parent.now in
      let reply = rw c.deref.ensures at c.batch_read-outcome.ensures.reply in
      let used = rw c.deref.ensures at c.batch_read-outcome.ensures.used p settings.quota in
      rw c.one_message.ensures
      (carries_uses BatchReadBlobs settings (visible_in p c.args.parent.now) c.args.message.now p old view c.batch_read-outcome.result
      (digests_to_read own c.args.message.now) (λ digests. read_reply seen digests) (λ calls. refl)
      (λ calls. refl) c.requires.kept reply used c.batch_read-outcome.ensures.err
      c.batch_read-outcome.ensures.holders c.batch_read-outcome.ensures.limit (c.batch_read-outcome.ensures.kept p settings.quota));
}
