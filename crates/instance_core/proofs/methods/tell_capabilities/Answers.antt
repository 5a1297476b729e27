use Rattle.std.proofs.Common.{refl}
use Rattle.std.specs.Prelude.{string_bytes}
use Rattle.instance_core.specs.Capabilities.{get_capabilities_reply}
use Rattle.rpc.specs.declared.method.Method.TheVariants.{GetCapabilities}
use Rattle.instance_core.proofs.Carrying.{carries_nothing}
use Rattle.instance_core.proofs.methods.tell_capabilities.Goals as goal

pub returns : goal.returns
returns c = record {
  carried =
      λ parent p kept.
      let settings = c.args.settings.now in
      let own = string_bytes settings.name in
      let old = c.args.contents.now in
      let reply = rw c.deref.ensures at c.get_capabilities-outcome.ensures in
      rw c.one_message.ensures
      (carries_nothing GetCapabilities settings parent c.args.message.now p old c.get_capabilities-outcome.result
      (get_capabilities_reply own settings.slots c.args.message.now) (λ calls. refl) (λ calls. refl) kept reply);
}
