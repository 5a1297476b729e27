use Rattle.std.proofs.Common.{◌≡◌, ◌++◌, drop}
use Rattle.grpc_sending.specs.Sources.{sources_held}
use Rattle.grpc_sending.proofs.queue.add_sources.Given as goal

abbrev pub invariant-loop-queue : goal.invariant-loop-queue
invariant-loop-queue l = l.sources.items ++ sources_held (drop l.queue-index l.queues) ≡ l.fn.sources.items ++ sources_held l.queues
