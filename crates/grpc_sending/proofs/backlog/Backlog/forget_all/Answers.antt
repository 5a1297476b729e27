use Rattle.std.proofs.Common.{subst, sym, arith}
use Rattle.grpc_sending.proofs.Sources.{all_spent}
use Rattle.grpc_sending.specs.SortedQueues.{AreSorted}
use Rattle.grpc_sending.proofs.backlog.Backlog.forget_all.Goals as goal

pub invariant_of-self : goal.invariant_of-self
invariant_of-self c = (
  all_spent c.self.inside.queues.items c.forget_all.new.queues.items c.self.inside.spent.items
      c.forget_all.new.spent.items c.self.inside.sources c.forget_all.ensures.queues c.forget_all.ensures.sources c.self.invariant.0,
  omega
      (arith, c.self.invariant.1, c.forget_all.ensures.capacity),
  subst AreSorted (sym c.forget_all.ensures.queues) tt,
)
