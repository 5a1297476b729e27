use Rattle.std.proofs.Common.{refl, rules}
use Rattle.host_sockets.proofs.Left.{retained}
use Rattle.host_sockets.proofs.port.Port.drop_rest.Goals as goal

pub returns : goal.returns
returns g c = record {
  address = refl;
  door = refl;
  wires = refl;
  lingering = retained _ _ (λ s x b t y called. search rules) _ _ _ c.retain_mut.ensures.filtered;
}
