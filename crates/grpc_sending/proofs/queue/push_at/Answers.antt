use Rattle.grpc_sending.proofs.Sorted.{sorted_here}
use Rattle.grpc_sending.proofs.queue.push_at.Goals as goal

pub returns-clause-sorted : goal.returns-clause-sorted
returns-clause-sorted c = sorted_here c.args.queues.now.items c.args.place c.index_mut.result.now c.push.new.self c.index_mut.ensures.value
    c.requires.sorted
