use Rattle.logs.proofs.Carried.{carried_on}
use Rattle.logs.proofs.logged_sockets.LoggedSocketsSockets.close.Goals as goal

pub invariant_of-self : goal.invariant_of-self
invariant_of-self g c = record {
  carried = carried_on _ _ _ _ _ c.args.self.now.carried
      c.close-closed.ensures.carries c.add.ensures.adds;
}
