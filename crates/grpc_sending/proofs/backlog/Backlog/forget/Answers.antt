use Rattle.std.proofs.Common.{subst, sym, arith}
use Rattle.grpc_sending.specs.Sources.{sources_held}
use Rattle.grpc_sending.proofs.Sources.{room_of}
use Rattle.grpc_sending.specs.SortedQueues.{AreSorted}
use Rattle.grpc_sending.proofs.Sorted.{kept_sorted}
use Rattle.grpc_sending.proofs.backlog.Backlog.forget.Goals as goal

pub invariant_of-self : goal.invariant_of-self
invariant_of-self c = (
  room_of (sources_held c.self.inside.queues.items)
      (sources_held c.forget.new.queues.items) c.self.inside.spent.items c.forget.new.spent.items c.self.inside.sources c.self.inside.sources
      c.forget.ensures.sources c.self.invariant.0 (omega arith),
  omega (arith, c.self.invariant.1, c.forget.ensures.capacity),
  subst AreSorted
      (sym c.forget.ensures.queues) (kept_sorted c.args.stream c.self.inside.queues.items c.self.invariant.2),
)
