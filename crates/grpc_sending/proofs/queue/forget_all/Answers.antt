use Rattle.std.proofs.Common.{◌≡◌, ◌++◌, ◌∷◌, [], arith}
use Rattle.std.specs.Prelude.{vec_capacity}
use Rattle.grpc_sending.specs.Sources.{sources_held}
use Rattle.grpc_sending.proofs.Sources.{room_of, few_last, same_last}
use Rattle.grpc_sending.proofs.queue.forget_all.Goals as goal

pub clear-requires : goal.clear-requires
clear-requires c =
    let is : c.queues.queues.items ≡ c.pop.new.self.items ++ c.in-Some.queue ∷ [] = c.in-Some.ensures.items in
    let few = few_last c.queues.queues.items c.pop.new.self.items c.in-Some.queue is in
    let room = room_of (sources_held c.args.queues.now.items)
    (sources_held c.queues.queues.items) c.args.spent.now.items c.queues.spent.items (vec_capacity c.args.spent.now)
    (vec_capacity c.queues.spent) c.queues.invariant.same c.requires.room c.queues.invariant.capacity in
    record { room = omega (arith, few, room) }

pub queues-preserved : goal.queues-preserved
queues-preserved c =
    let is : c.queues.queues.items ≡ c.pop.new.self.items ++ c.in-Some.queue ∷ [] = c.in-Some.ensures.items in
    record {
      same = same_last c.args.queues.now.items c.queues.queues.items c.pop.new.self.items c.in-Some.queue c.args.spent.now.items
          c.queues.spent.items c.clear.new.spent.items is c.queues.invariant.same c.clear.ensures.sources;
      capacity = omega (arith, c.queues.invariant.capacity, c.clear.ensures.capacity);
    }
