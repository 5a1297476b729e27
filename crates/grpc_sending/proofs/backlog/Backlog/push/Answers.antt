use Rattle.std.proofs.Common.{length}
use Rattle.grpc_sending.proofs.Sources.{push_room, push_same}
use Rattle.grpc_sending.proofs.backlog.Backlog.push.Goals as goal

pub invariant_of-self : goal.invariant_of-self
invariant_of-self c = (
  push_room c.push.result c.self.inside.queues.items c.push.new.queues.items c.args.piece
      (length c.self.inside.spent.items) c.self.inside.sources c.requires c.push.ensures.sources c.push.ensures.err c.self.invariant.0,
  c.self.invariant.1,
  c.push.ensures.sorted,
)

pub returns-clause-sources : goal.returns-clause-sources
returns-clause-sources c = push_same c.push.result
    (record { queues = c.self.inside.queues.items; spent = c.self.inside.spent.items }) c.args.self.now c.push.new.queues.items c.args.piece
    c.self.view_is c.requires c.push.ensures.sources
