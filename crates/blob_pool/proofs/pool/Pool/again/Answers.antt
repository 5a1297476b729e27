use Rattle.blob_pool.proofs.pool.Pool.again.Goals as goal

pub invariant_of-self : goal.invariant_of-self
invariant_of-self c = (c.hold_again.ensures.pool _ c.self.invariant.0, c.hold_again.ensures.totals _ c.self.invariant.1)
