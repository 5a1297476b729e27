use Rattle.std.proofs.Common.{◌≡◌, take, drop, ◌++◌}
use Rattle.std.specs.Prelude.{map}
use Rattle.http2_streams.specs.Step.{stream_after_put}
use Rattle.http2_streams.proofs.live.spend.Given as goal

abbrev pub invariant-loop-stream : goal.invariant-loop-stream
invariant-loop-stream l = l.live ≡ map (stream_after_put l.number l.count) (take l.stream-index l.fn.live) ++ drop l.stream-index l.fn.live
