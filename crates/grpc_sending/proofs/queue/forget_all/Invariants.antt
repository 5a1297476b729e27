use Rattle.std.proofs.Common.{◌≤◌, ◌++◌}
use Rattle.std.specs.Prelude.{vec_capacity}
use Rattle.grpc_sending.specs.Sources.{AreSame, sources_held}
use Rattle.grpc_sending.proofs.queue.forget_all.Given as goal

abbrev pub invariant-queues : goal.invariant-queues
invariant-queues l = record {
  same : AreSame (sources_held l.fn.queues.items ++ l.fn.spent.items) (sources_held l.queues.items ++ l.spent.items);
  capacity : vec_capacity l.fn.spent ≤ vec_capacity l.spent;
}

abbrev pub decreases-queues : goal.decreases-queues
decreases-queues l = goal.left-queues l
