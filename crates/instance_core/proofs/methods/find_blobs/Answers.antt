use Rattle.std.proofs.Common.{◌++◌, refl}
use Rattle.std.specs.Prelude.{string_bytes}
use Rattle.instance_view.specs.Shown.{visible_in}
use Rattle.cas_service.specs.FindMissing.{digests_asked, missing_digests, missing_reply}
use Rattle.rpc.specs.declared.method.Method.TheVariants.{FindMissingBlobs}
use Rattle.instance_core.proofs.Carrying.{carries_uses}
use Rattle.instance_core.proofs.methods.find_blobs.Goals as goal

pub returns : goal.returns
returns c = record {
  carried =
      λ p kept.
      let settings = c.args.settings.now in
      let own = string_bytes settings.name in
      let old = c.args.contents.now in
      let view = c.find_missing-outcome.new.view in
      let seen = visible_in p old.view ++ visible_in p c.args.parent.now in
      let reply = rw c.deref.ensures at c.find_missing-outcome.ensures.reply p in
      let used = rw c.deref.ensures at c.find_missing-outcome.ensures.used p settings.quota in
      rw c.one_message.ensures
      (carries_uses FindMissingBlobs settings (visible_in p c.args.parent.now) c.args.message.now p old view c.find_missing-outcome.result
      (digests_asked own c.args.message.now) (λ digests. missing_reply (missing_digests seen digests)) (λ calls. refl)
      (λ calls. refl) kept reply used c.find_missing-outcome.ensures.err
      c.find_missing-outcome.ensures.holders c.find_missing-outcome.ensures.limit (c.find_missing-outcome.ensures.kept p settings.quota));
}
