use Rattle.std.proofs.Common.{ℕ, ◌<◌, ◌≤◌, ◌-◌, length}
use Rattle.grpc_sending.proofs.Sorted.{stream_at}
use Rattle.grpc_sending.proofs.queue.find_from.Given as goal

abbrev pub invariant-back : goal.invariant-back
invariant-back l = l.place ≤ length l.queues

abbrev pub decreases-back : goal.decreases-back
decreases-back l = l.place

abbrev pub invariant-on : goal.invariant-on
invariant-on l = record {
  within : l.place ≤ length l.queues;
  below : (k : ℕ) → k < l.place → stream_at l.queues k < l.stream;
}

abbrev pub decreases-on : goal.decreases-on
decreases-on l = length l.queues - l.place
