use Rattle.std.proofs.Common.{subst, sym, arith}
use Rattle.grpc_sending.specs.Sources.{sources_held}
use Rattle.grpc_sending.proofs.Sources.{room_of}
use Rattle.grpc_sending.specs.declared.queue.Removal.TheVariants.{FrontBytes}
use Rattle.grpc_sending.specs.SortedQueues.{AreSorted}
use Rattle.grpc_sending.proofs.Sorted.{left_sorted}
use Rattle.grpc_sending.proofs.backlog.Backlog.take_off.Goals as goal

pub invariant_of-self : goal.invariant_of-self
invariant_of-self c = (
  room_of (sources_held c.self.inside.queues.items)
      (sources_held c.remove_on.new.queues.items) c.self.inside.spent.items c.remove_on.new.spent.items c.self.inside.sources
      c.self.inside.sources c.remove_on.ensures.sources c.self.invariant.0 (omega arith),
  omega
      (arith, c.self.invariant.1, c.remove_on.ensures.capacity),
  subst AreSorted (sym c.remove_on.ensures.queues)
      (left_sorted (FrontBytes c.args.count) c.args.stream c.self.inside.queues.items c.self.invariant.2),
)
