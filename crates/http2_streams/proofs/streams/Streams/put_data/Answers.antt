use Rattle.std.proofs.Common.{◌≡◌, length, ap, ◌∙◌, rules, arith}
use Rattle.http2_streams.specs.Standing.{Standing}
use Rattle.http2_streams.specs.Step.{after_server_end, stream_after_put}
use Rattle.http2_streams.proofs.Rising.{written_is, written_few, put_rises, data_spent, put_leaves}
use Rattle.http2_streams.proofs.streams.Streams.put_data.Goals as goal

pub invariant_of-self : goal.invariant_of-self
invariant_of-self c =
    let long : c.self.inside.live.len ≡ length c.self.inside.live.items = search rules in
    let few = written_few (stream_after_put c.args.stream c.args.count) c.self.inside.live.len c.self.inside.live.items
    c.deref_mut.result.now c.spend.new.live
    long c.deref_mut.ensures.value c.spend.ensures in (
      omega (arith, few, c.self.invariant.0),
      c.self.invariant.1,
      put_rises c.args.stream c.args.count c.self.inside.highest c.self.inside.live.len c.self.inside.live.items c.deref_mut.result.now
          c.spend.new.live long
          c.deref_mut.ensures.value c.spend.ensures c.self.invariant.2,
      c.self.invariant.3,
      c.self.invariant.4,
      c.self.invariant.5,
      c.self.invariant.6,
    )

pub returns-clause-spent : goal.returns-clause-spent
returns-clause-spent c =
    let long : c.self.inside.live.len ≡ length c.self.inside.live.items = search rules in
    let live = written_is (stream_after_put c.args.stream c.args.count) c.self.inside.live.len c.self.inside.live.items
    c.deref_mut.result.now c.spend.new.live
    long c.deref_mut.ensures.value c.spend.ensures in
    λ can. c.end_by_server.ensures
    ∙ ap (λ (x : Standing). after_server_end x c.args.stream c.args.end_stream)
    (data_spent c.args.self.now _ c.args.stream c.args.count _ _ can live c.spend-2.ensures c.self.view_is)

pub returns-clause-others : goal.returns-clause-others
returns-clause-others c =
    let long : c.self.inside.live.len ≡ length c.self.inside.live.items = search rules in
    let live = written_is (stream_after_put c.args.stream c.args.count) c.self.inside.live.len c.self.inside.live.items
    c.deref_mut.result.now c.spend.new.live
    long c.deref_mut.ensures.value c.spend.ensures in
    put_leaves c.args.self.now _ _ c.args.stream c.args.count c.args.end_stream _ _ live c.spend-2.ensures c.self.view_is
    c.end_by_server.ensures
