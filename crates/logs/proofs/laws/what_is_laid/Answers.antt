use Rattle.std.proofs.Math.Logic.{∥∥₁_elim}
use Rattle.host_sockets.proofs.Carried.{known_is}
use Rattle.host_sockets.proofs.Events.{events_set}
use Rattle.logs.proofs.laws.what_is_laid.Goals as goal

pub returns : goal.returns
returns g c = known_is _ _ (λ h is. ∥∥₁_elim (c.args.sockets.now.carried h is)
    (Prim.hlevel events_set) (λ laid. laid))
