use Rattle.std.proofs.Common.{length}
use Rattle.std.specs.Prelude.{vec_capacity}
use Rattle.grpc_sending.proofs.Sorted.{changed_here, spends_here, room_here, none_left}
use Rattle.grpc_sending.proofs.queue.remove_on.Goals as goal

pub remove-requires : goal.remove-requires
remove-requires c = record {
  room = room_here c.args.stream c.args.queues.now.items c.deref.result.now c.in-Ok.place
      (length c.args.spent.now.items) (vec_capacity c.args.spent.now) c.index_mut.result.now c.deref.ensures.value c.in-Ok.ensures.found
      c.index_mut.ensures.value c.requires.room;
}

pub returns-in-Ok-clause-queues : goal.returns-in-Ok-clause-queues
returns-in-Ok-clause-queues c = changed_here c.args.removal c.args.stream c.args.queues.now.items c.deref.result.now c.in-Ok.place
    c.index_mut.result.now c.remove.new.self c.deref.ensures.value c.in-Ok.ensures.found c.index_mut.ensures.value c.remove.ensures.pieces

pub returns-in-Ok-clause-sources : goal.returns-in-Ok-clause-sources
returns-in-Ok-clause-sources c = spends_here c.args.stream c.args.queues.now.items c.deref.result.now c.args.spent.now.items
    c.remove.new.spent.items c.in-Ok.place c.index_mut.result.now c.remove.new.self c.deref.ensures.value c.in-Ok.ensures.found
    c.index_mut.ensures.value c.remove.ensures.sources

pub returns-in_default-clause-queues : goal.returns-in_default-clause-queues
returns-in_default-clause-queues c = none_left c.args.removal c.args.stream c.args.queues.now.items c.deref.result.now c.in_default.field-0
    c.deref.ensures.value c.in_default.ensures.absent
