use Rattle.logs.proofs.Carried.{carried_on, carried_still}
use Rattle.logs.proofs.logged_sockets.LoggedSocketsSockets.accept.Goals as goal

pub invariant_of-self : goal.invariant_of-self
invariant_of-self g c = record {
  carried = carried_on _ _ _ _ _ c.args.self.now.carried
      c.in-Ok.ensures.carries c.add.ensures.adds;
}

pub invariant_of-self-in-Err-1 : goal.invariant_of-self-in-Err-1
invariant_of-self-in-Err-1 g c = record {
  carried = carried_still _ _ _ c.args.self.now.carried
      c.in-Err.ensures.carries;
}
