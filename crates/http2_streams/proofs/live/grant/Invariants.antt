use Rattle.std.proofs.Common.{◌≡◌, take, drop, ◌++◌}
use Rattle.std.specs.Prelude.{map}
use Rattle.http2_streams.specs.Step.{stream_after_grant}
use Rattle.http2_streams.proofs.live.grant.Given as goal

abbrev pub invariant-loop-stream : goal.invariant-loop-stream
invariant-loop-stream l = l.live ≡ map (stream_after_grant l.number l.increment) (take l.stream-index l.fn.live)
    ++ drop l.stream-index l.fn.live
