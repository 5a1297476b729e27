use Rattle.server_core.specs.Notes.{record_after_noting}
use Rattle.server_core.proofs.Places.{written}
use Rattle.server_core.proofs.record.count_untaken.Goals as goal

pub loop-connection-preserved : goal.loop-connection-preserved
loop-connection-preserved c = λ m served apart. written
    (record_after_noting m) _ _ _ _ _ c.loop-connection-test.true c.loop-connection.auto.live (c.loop-connection.invariant m served apart)
    (c.count_on.ensures m served apart)
