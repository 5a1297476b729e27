use Rattle.std.proofs.Common.{◌≡◌, rules, subst}
use Rattle.http2_streams.specs.Credit.{window_left}
use Rattle.http2_streams.specs.Rising.{RiseTo}
use Rattle.grpc_sending.specs.SendingSteps.{next_due}
use Rattle.grpc_sending.proofs.Done.{below_if}
use Rattle.grpc_sending.proofs.turn.next_due.Goals as goal

pub returns-clause-below : goal.returns-clause-below
returns-clause-below c =
    let first : c.first_turn.result ≡ next_due c.args.queues.now
    (window_left c.args.streams.now.connection_window) c.args.streams.now.live = search rules in
    let rise = subst (RiseTo c.args.streams.now.highest) c.live.ensures.list c.live.ensures.rise in
    below_if c.first_turn.result c.args.streams.now.highest c.args.queues.now
    (window_left c.args.streams.now.connection_window) c.args.streams.now.live first
    rise
