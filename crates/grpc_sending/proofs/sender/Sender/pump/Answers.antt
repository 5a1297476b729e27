use Rattle.std.proofs.Common.{ap, ◌∙◌}
use Rattle.grpc_sending.specs.StoredSending.{sending_in}
use Rattle.grpc_sending.proofs.Pumping.{pumping_more, pumping_streams, pumping_sending, pumping_by, rests_same}
use Rattle.grpc_sending.proofs.Endings.{ending_more, ending_by}
use Rattle.grpc_sending.proofs.sender.Sender.pump.Goals as goal

pub turns-preserved : goal.turns-preserved
turns-preserved g c = (
  pumping_more c.args.streams.now c.turns.streams c.put_next.new.streams
      (sending_in (g.P.Parts.text_of c.args.parts.now) c.args.self.now) (sending_in (g.P.Parts.text_of c.args.parts.now) c.turns.self)
      (sending_in (g.P.Parts.text_of c.args.parts.now) c.put_next.new.self) c.turns.invariant.0
      (c.put_next.ensures.puts c.turns-test.true),
  λ texts h. c.put_next.ensures.fit texts
      (c.turns.invariant.1 texts h),
  λ k. c.put_next.ensures.sources k
      ∙ c.turns.invariant.2 k,
  λ t h. c.put_next.ensures.none t (c.turns.invariant.3 t h),
  ending_more
      (g.P.Parts.text_of c.args.parts.now) c.args.streams.now c.turns.streams c.put_next.new.streams c.args.self.now c.turns.self
      c.put_next.new.self c.turns.invariant.4 (c.put_next.ensures.puts c.turns-test.true)
      (c.put_next.ensures.ended c.turns-test.true),
  λ _. c.put_next.ensures.room c.turns-test.true,
  c.put_next.ensures.done c.turns-test.true,
)

pub returns-clause-streams : goal.returns-clause-streams
returns-clause-streams g c =
    let p = pumping_by c.args.streams.now c.turns.streams c.put_next.new.streams
    (sending_in (g.P.Parts.text_of c.args.parts.now) c.args.self.now) (sending_in (g.P.Parts.text_of c.args.parts.now) c.turns.self)
    (sending_in (g.P.Parts.text_of c.args.parts.now) c.put_next.new.self) c.turns.invariant.0
    (c.put_next.ensures.rests c.turns-test.false (g.P.Parts.text_of c.args.parts.now)
    (c.turns.invariant.1 (g.P.Parts.text_of c.args.parts.now) c.requires.fit)) (c.put_next.ensures.streams c.turns-test.false)
    (ap (sending_in (g.P.Parts.text_of c.args.parts.now)) (c.put_next.ensures.same c.turns-test.false)) in
    pumping_streams c.args.streams.now c.put_next.new.streams (sending_in (g.P.Parts.text_of c.args.parts.now) c.args.self.now)
    (sending_in (g.P.Parts.text_of c.args.parts.now) c.put_next.new.self) p.0 p.1

pub returns-clause-sending : goal.returns-clause-sending
returns-clause-sending g c =
    let p = pumping_by c.args.streams.now c.turns.streams c.put_next.new.streams
    (sending_in (g.P.Parts.text_of c.args.parts.now) c.args.self.now) (sending_in (g.P.Parts.text_of c.args.parts.now) c.turns.self)
    (sending_in (g.P.Parts.text_of c.args.parts.now) c.put_next.new.self) c.turns.invariant.0
    (c.put_next.ensures.rests c.turns-test.false (g.P.Parts.text_of c.args.parts.now)
    (c.turns.invariant.1 (g.P.Parts.text_of c.args.parts.now) c.requires.fit)) (c.put_next.ensures.streams c.turns-test.false)
    (ap (sending_in (g.P.Parts.text_of c.args.parts.now)) (c.put_next.ensures.same c.turns-test.false)) in
    pumping_sending c.args.streams.now c.put_next.new.streams (sending_in (g.P.Parts.text_of c.args.parts.now) c.args.self.now)
    (sending_in (g.P.Parts.text_of c.args.parts.now) c.put_next.new.self) p.0 p.1

pub put_next-requires : goal.put_next-requires
put_next-requires g c = record { fit = c.turns.invariant.1 (g.P.Parts.text_of c.args.parts.now) c.requires.fit; done = c.turns.invariant.6 }

pub returns-clause-fit : goal.returns-clause-fit
returns-clause-fit g c = λ texts h. c.put_next.ensures.fit texts (c.turns.invariant.1 texts h)

pub returns-clause-sources : goal.returns-clause-sources
returns-clause-sources g c = λ k. c.put_next.ensures.sources k ∙ c.turns.invariant.2 k

pub returns-clause-rests : goal.returns-clause-rests
returns-clause-rests g c = rests_same c.turns.streams c.put_next.new.streams c.turns.self c.put_next.new.self
    (c.put_next.ensures.rests c.turns-test.false) (c.put_next.ensures.streams c.turns-test.false)
    (c.put_next.ensures.same c.turns-test.false)

pub returns-clause-none : goal.returns-clause-none
returns-clause-none g c = λ t h. c.put_next.ensures.none t (c.turns.invariant.3 t h)

pub returns-clause-ended : goal.returns-clause-ended
returns-clause-ended g c = ending_by (g.P.Parts.text_of c.args.parts.now) c.args.streams.now c.turns.streams c.args.self.now c.turns.self
    c.put_next.new.self c.turns.invariant.4 (c.put_next.ensures.rests c.turns-test.false (g.P.Parts.text_of c.args.parts.now)
    (c.turns.invariant.1 (g.P.Parts.text_of c.args.parts.now) c.requires.fit)) (c.put_next.ensures.same c.turns-test.false)
