use Rattle.grpc_sending.proofs.Sorted.{at_stored, gap_none}
use Rattle.grpc_sending.proofs.queue.pieces_from.Goals as goal

pub returns-in-Ok : goal.returns-in-Ok
returns-in-Ok c = at_stored c.args.stream c.args.queues.now c.in-Ok.found c.index-queues-found.result c.in-Ok.ensures.found

pub returns-in-Err : goal.returns-in-Err
returns-in-Err c = gap_none c.args.stream c.args.queues.now _ c.in-Err.ensures.absent
