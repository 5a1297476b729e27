use Rattle.std.specs.Prelude.{map}
use Rattle.server_core.specs.Shown.{sent_shown}
use Rattle.server_core.proofs.Places.{gathered_more}
use Rattle.server_core.proofs.record.gather.Goals as goal

pub loop-connection-preserved : goal.loop-connection-preserved
loop-connection-preserved c = λ m served apart. gathered_more m c.args.live.now c.loop-connection.connection-index _
    (map sent_shown c.args.sent.now.items) (map sent_shown c.loop-connection.sent.items)
    (map sent_shown c.gather_from.new.sent.items) c.loop-connection-test.true (c.loop-connection.invariant m served apart)
    (c.in_ok-gather_from.ensures m served apart)
