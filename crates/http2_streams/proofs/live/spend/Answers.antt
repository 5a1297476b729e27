use Rattle.std.proofs.Common.{ap, sym, ◌∙◌}
use Rattle.std.proofs.Math.ListN.{set}
use Rattle.std.proofs.lemmas.List.Edits.{map_over_more}
use Rattle.http2_streams.specs.declared.stream.Stream.{Stream}
use Rattle.http2_streams.specs.Step.{stream_after_put}
use Rattle.http2_streams.proofs.live.spend.Goals as goal

pub loop-stream-preserved : goal.loop-stream-preserved
loop-stream-preserved c =
    let f = λ (x : Stream). stream_after_put c.args.number c.args.count x in
    ap (λ (y : Stream). set c.loop-stream.live c.loop-stream.stream-index y) (c.spend.ensures ∙ ap f (sym c.stream-item.is))
    ∙ map_over_more f c.args.live.now c.loop-stream.live c.loop-stream.stream-index c.stream-item.result c.loop-stream-test.true
    c.loop-stream.invariant c.stream-item.is
