use Rattle.std.proofs.Common.{◌≡◌, take, drop, ◌++◌}
use Rattle.std.specs.Prelude.{map}
use Rattle.server_core.specs.Notes.{record_after_taking}
use Rattle.server_core.proofs.record.take.Given as goal

abbrev pub invariant-loop-connection : goal.invariant-loop-connection
invariant-loop-connection l = l.live ≡ map (record_after_taking l.number l.count) (take l.connection-index l.fn.live)
    ++ drop l.connection-index l.fn.live
