use Rattle.std.proofs.Common.{◌≡◌, length, rules, arith}
use Rattle.http2_streams.specs.Step.{stream_after_resize}
use Rattle.http2_streams.proofs.Rising.{written_few, resized_rises}
use Rattle.http2_streams.proofs.streams.Streams.resize.Goals as goal

pub invariant_of-self : goal.invariant_of-self
invariant_of-self c =
    let long : c.self.inside.live.len ≡ length c.self.inside.live.items = search rules in
    let few = written_few (stream_after_resize c.args.initial_window_size) c.self.inside.live.len c.self.inside.live.items
    c.deref_mut.result.now
    c.resize.new.live long c.deref_mut.ensures.value c.resize.ensures in (
      omega (arith, few, c.self.invariant.0),
      c.self.invariant.1,
      resized_rises c.args.initial_window_size c.self.inside.highest c.self.inside.live.len c.self.inside.live.items c.deref_mut.result.now
          c.resize.new.live
          long c.deref_mut.ensures.value c.resize.ensures c.self.invariant.2,
      c.self.invariant.3,
      c.self.invariant.4,
      c.self.invariant.5,
      search rules,
    )
