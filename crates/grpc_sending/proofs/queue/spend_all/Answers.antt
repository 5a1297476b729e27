use Rattle.std.specs.Prelude.{vec_capacity}
use Rattle.grpc_sending.specs.Sources.{sources_in}
use Rattle.grpc_sending.proofs.Sources.{room_of}
use Rattle.grpc_sending.proofs.queue.spend_all.Goals as goal

pub spend_first-requires : goal.spend_first-requires
spend_first-requires c = record {
  room = room_of (sources_in c.args.pieces.now.items)
      (sources_in c.pieces.pieces.items) c.args.spent.now.items c.pieces.spent.items (vec_capacity c.args.spent.now)
      (vec_capacity c.pieces.spent) c.pieces.invariant.same c.requires.room c.pieces.invariant.capacity;
}
