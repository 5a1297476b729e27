use Rattle.std.proofs.Common.{◌≡◌, length, rules, arith}
use Rattle.http2_streams.specs.Step.{stream_after_grant}
use Rattle.http2_streams.proofs.Rising.{written_few, granted_rises}
use Rattle.http2_streams.proofs.streams.Streams.on_window_update.Goals as goal

pub invariant_of-self : goal.invariant_of-self
invariant_of-self c =
    let long : c.self.inside.live.len ≡ length c.self.inside.live.items = search rules in
    let few = written_few (stream_after_grant c.args.stream c.args.increment) c.self.inside.live.len c.self.inside.live.items
    c.deref_mut.result.now
    c.grant.new.live long c.deref_mut.ensures.value c.grant.ensures in (
      omega (arith, few, c.self.invariant.0),
      c.self.invariant.1,
      granted_rises c.args.stream c.args.increment c.self.inside.highest c.self.inside.live.len c.self.inside.live.items
          c.deref_mut.result.now c.grant.new.live
          long c.deref_mut.ensures.value c.grant.ensures c.self.invariant.2,
      c.self.invariant.3,
      c.self.invariant.4,
      c.self.invariant.5,
      c.self.invariant.6,
    )
