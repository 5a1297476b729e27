use Rattle.std.proofs.Common.{refl}
use Rattle.std.specs.Prelude.{string_bytes}
use Rattle.bytestream.specs.Querying.{query_reply}
use Rattle.instance_view.specs.Shown.{visible_in}
use Rattle.rpc.specs.declared.method.Method.TheVariants.{QueryWriteStatus}
use Rattle.instance_core.proofs.Carrying.{carries_nothing}
use Rattle.instance_core.proofs.methods.tell_status.Goals as goal

pub returns : goal.returns
returns c = record {
  carried =
      λ parent p kept.
      let settings = c.args.settings.now in
      let own = string_bytes settings.name in
      let old = c.args.contents.now in
      let reply = rw c.deref.ensures at c.query-outcome.ensures p in
      rw c.one_message.ensures
      (carries_nothing QueryWriteStatus settings parent c.args.message.now p old c.query-outcome.result
      (query_reply own (visible_in p old.view) old.uploads c.args.message.now) (λ calls. refl) (λ calls. refl) kept reply);
}
