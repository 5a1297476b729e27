use Rattle.std.proofs.Common.{ap, ◌∙◌, sym}
use Rattle.std.specs.Option.{option_map}
use Rattle.std.specs.List.{slice_get}
use Rattle.std.proofs.lemmas.Option.{slice_get-map}
use Rattle.served_instance.specs.Slots.{served_state_in}
use Rattle.server_core.specs.StandsFor.{ServerState, instance_at}
use Rattle.server_core.proofs.Lists.{map_twice, got}
use Rattle.server_core.proofs.Others.{ranges_got}
use Rattle.server_core.proofs.server.Server.instance.Goals as goal

pub returns : goal.returns
returns c =
    let p = c.self.inside.pool in
    let xs = c.self.inside.instances.items in
    let i = c.args.number in
    let at = got (λ r. r.now) c.deref.result.now i c.get.result c.get.ensures.lookup.0 c.get.ensures.lookup.1 in (
      p,
      map_twice (served_state_in p) (λ r. r.now) c.get.result
          ∙ ap (option_map (served_state_in p)) (at ∙ ap (λ ys. slice_get ys i) c.deref.ensures.value)
          ∙ sym (slice_get-map (served_state_in p) xs i)
          ∙ ap (λ (v : ServerState). instance_at i v.instances) c.self.view_is,
      ranges_got (λ r. r.now) c.get.result p xs i (at ∙ ap (λ ys. slice_get ys i) c.deref.ensures.value) c.self.invariant.0.ranges,
    )
