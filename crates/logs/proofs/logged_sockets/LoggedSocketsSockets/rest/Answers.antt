use Rattle.logs.proofs.Carried.{carried_still}
use Rattle.logs.proofs.logged_sockets.LoggedSocketsSockets.rest.Goals as goal

pub invariant_of-self : goal.invariant_of-self
invariant_of-self g c = record {
  carried = carried_still _ _ _ c.args.self.now.carried
      c.rest.ensures.carries;
}
