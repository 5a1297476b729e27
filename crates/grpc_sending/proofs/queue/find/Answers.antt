use Rattle.std.proofs.Common.{rules}
use Rattle.std.proofs.lemmas.List.Sorted.{answers_always}
use Rattle.grpc_sending.specs.declared.queue.StoredQueue.{StoredQueue}
use Rattle.grpc_sending.proofs.Sorted.{searched}
use Rattle.grpc_sending.proofs.queue.find.Goals as goal

pub returns : goal.returns
returns c =
    let facts = c.binary_search_by_key.ensures in
    let by_key = facts.position (λ (q : StoredQueue). q.stream) (answers_always _ _ _ (λ f a r g called. search rules)) in
    let s = searched c.args.queues.now c.args.stream c.binary_search_by_key.result c.requires.sorted facts.bound by_key in
    record { found = s.found; absent = s.absent; bound = facts.bound }
