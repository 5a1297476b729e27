use Rattle.std.proofs.Common.{ℕ, List, [], ◌∷◌, ap}
use Rattle.serve.specs.SocketEvents.{port, read}
use Rattle.logs.proofs.Carried.{carried_as, carried_on}
use Rattle.logs.proofs.logged_sockets.LoggedSocketsSockets.read.Goals as goal

pub invariant_of-self : goal.invariant_of-self
invariant_of-self g c = record {
  carried = carried_as _ _ _ _ _ _
      (ap (λ (bytes : List ℕ). port c.args.socket.instance
      (read c.args.socket.connection bytes) ∷ [])
      c.in-Ok-copied.ensures) c.args.self.now.carried c.in-Ok.ensures.carries c.add.ensures.adds;
}

pub invariant_of-self-in-Err : goal.invariant_of-self-in-Err
invariant_of-self-in-Err g c = record {
  carried = carried_on _ _ _ _ _ c.args.self.now.carried
      c.in-Err.ensures.carries c.add_failure.ensures;
}
