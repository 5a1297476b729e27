use Rattle.std.proofs.Common.{ap, arith}
use Rattle.http2_streams.specs.Standing.{Standing}
use Rattle.http2_streams.proofs.Rising.{all_below}
use Rattle.http2_streams.proofs.streams.Streams.on_request.Goals as goal

pub open-requires-clause-above : goal.open-requires-clause-above
open-requires-clause-above c =
    let high = ap (λ (x : Standing). x.highest) c.self.view_is in
    all_below c.self.inside.highest c.args.block.stream c.self.inside.live.items (omega (arith, high, c.requires)) c.self.invariant.2
