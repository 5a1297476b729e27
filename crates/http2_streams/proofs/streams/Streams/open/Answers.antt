use Rattle.std.proofs.Common.{rules, false, ◌≡◌, ◌++◌, ◌∷◌, []}
use Rattle.http2_streams.proofs.Rising.{opened_rises}
use Rattle.http2_streams.proofs.streams.Streams.open.Goals as goal

pub invariant_of-self : goal.invariant_of-self
invariant_of-self c =
    let new : c.push.new.self.items ≡ c.self.inside.live.items ++ record
    { number = c.args.stream; ended_by_client = c.args.end_stream; ended_by_server = false; window = c.new-window.result } ∷ [] =
    search rules in (
      search rules,
      search rules,
      opened_rises _ c.args.self.now
          (record { number = c.args.stream; ended_by_client = c.args.end_stream; ended_by_server = false; window = c.new-window.result })
          c.push.new.self.items
          c.self.view_is c.requires.highest c.requires.above new c.self.invariant.2,
      c.self.invariant.3,
      c.self.invariant.4,
      c.self.invariant.5,
      c.self.invariant.6,
    )
