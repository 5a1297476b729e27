use Rattle.std.specs.Prelude.{◌^◌, vec_capacity}
use Rattle.std.proofs.Common.{rules}
use Rattle.grpc_sending.proofs.Sources.{range_room, range_few, range_same}
use Rattle.grpc_sending.proofs.backlog.Backlog.push_range.Goals as goal

pub invariant_of-self-2 : goal.invariant_of-self-2
invariant_of-self-2 c =
    let room = range_room c.self.inside.queues.items c.push.new.queues.items c.args.range.source c.make_room.new.spent.items
    c.self.inside.spent.items c.self.inside.sources
    (vec_capacity c.make_room.new.spent) c.in_ok-push.ensures.sources c.make_room.ensures.items c.self.invariant.0
    c.in_ok-make_room.ensures.room in
    (room.0, room.1, c.push.ensures.sorted)

pub returns-clause-sources : goal.returns-clause-sources
returns-clause-sources c = range_same (record { queues = c.self.inside.queues.items; spent = c.self.inside.spent.items }) c.args.self.now
    c.push.new.queues.items c.args.range.source c.make_room.new.spent.items c.self.view_is c.in_ok-push.ensures.sources
    c.make_room.ensures.items

pub returns-clause-few : goal.returns-clause-few
returns-clause-few c = range_few c.self.inside.queues.items c.push.new.queues.items c.args.range.source c.make_room.new.spent.items
    c.self.inside.spent.items c.self.inside.sources (2 ^ 64) c.in_ok-push.ensures.sources c.make_room.ensures.items c.self.invariant.0
    (search rules)
