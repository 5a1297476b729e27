use Rattle.std.proofs.Common.{arith}
use Rattle.grpc_sending.proofs.Sorted.{below_to, walked_to, walked_past, walked_out}
use Rattle.grpc_sending.proofs.queue.find_from.Goals.{then-back-test+else-queues-place, else-back-test}
use Rattle.grpc_sending.proofs.queue.find_from.Goals as goal

pub on-init : goal.on-init
on-init c = record {
  within = c.back.invariant;
  below = elim c.back-test.branch [
    | then-back-test+else-queues-place w ↦ below_to c.args.queues.now c.args.stream _ c.back.place w.index-queues-place.result
        c.requires.sorted (omega (arith, c.back.invariant, w.back-test.true)) (omega (arith, w.back-test.true)) w.if-queues-place.false
    | else-back-test w ↦ λ k before. absurd (omega (arith, before, w.back-test.false))
  ];
}

pub returns-then-next-stream-clause-found : goal.returns-then-next-stream-clause-found
returns-then-next-stream-clause-found c = walked_to c.args.queues.now c.args.stream c.on.place c.index-queues-place-in-on.result
    c.requires.sorted c.on-test.true c.if-next-stream.true

pub returns-then-next-stream-2-clause-absent : goal.returns-then-next-stream-2-clause-absent
returns-then-next-stream-2-clause-absent c = walked_past c.args.queues.now c.args.stream c.on.place c.index-queues-place-in-on.result
    c.requires.sorted c.on-test.true c.if-next-stream-2.true c.on.invariant.below

pub returns-clause-absent : goal.returns-clause-absent
returns-clause-absent c = walked_out c.args.queues.now c.args.stream c.on.place c.on.invariant.within c.on-test.false c.on.invariant.below
