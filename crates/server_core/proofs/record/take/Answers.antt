use Rattle.server_core.specs.Notes.{record_after_taking}
use Rattle.server_core.proofs.Places.{written}
use Rattle.server_core.proofs.record.take.Goals as goal

pub loop-connection-preserved : goal.loop-connection-preserved
loop-connection-preserved c = written (record_after_taking c.args.number c.args.count) _ _ _ _ _ c.loop-connection-test.true
    c.loop-connection.auto.live c.loop-connection.invariant c.take_from.ensures
