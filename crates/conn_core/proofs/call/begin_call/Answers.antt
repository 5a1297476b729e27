use Rattle.std.proofs.Common.{◌≡◌, length, rules}
use Rattle.conn_core.proofs.Places.{begins_by}
use Rattle.conn_core.proofs.call.begin_call.Goals as goal

pub returns : goal.returns
returns c =
    let count : c.len-count.result ≡ length c.args.calls.now.items = search rules in
    begins_by c.args.stream c.args.method c.args.end_stream c.len-count.result c.args.live.now c.args.calls.now.items
    c.drop_closed_if_fewer.new.calls.items c.push.new.self.items c.new-call.result c.take.new.self c.args.due.now.items
    c.push_back.new.self.items c.take.new.due.items count c.drop_closed_if_fewer.ensures c.new-call.ensures.stream
    c.new-call.ensures.messages c.take.ensures.stream c.in_ok-take.ensures.messages c.in_ok-push_back.ensures.items
    c.in_ok-take.ensures.events c.in_ok-push.ensures.items
