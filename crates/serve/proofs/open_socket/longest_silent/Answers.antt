use Rattle.std.proofs.Common.{◌<◌, length, sym, ◌∙◌, arith}
use Rattle.std.proofs.lemmas.Bool.{true≢false}
use Rattle.std.proofs.lemmas.Grind.{common_steps}
use Rattle.std.proofs.lemmas.Option.{slice_get_within, slice_get-get_or}
use Rattle.serve.proofs.Silence.{longer_found, passed_by, further, found}
use Rattle.serve.proofs.open_socket.longest_silent.Goals as goal

pub loop-place-preserved-then-candidate-heard : goal.loop-place-preserved-then-candidate-heard
loop-place-preserved-then-candidate-heard c =
    let lt : c.loop-place.place < length c.args.connections.now = grind (arith, common_steps) in
    record {
      found = further c.loop-place.place c.loop-place.longest c.loop-place.invariant.found;
      longest = λ lone stands. passed_by c.loop-place.place c.args.instance c.args.moment lone c.args.connections.now c.loop-place.longest
          c.loop-place.heard _ (slice_get-get_or c.args.connections.now c.loop-place.place _ lt) (λ may. c.if-candidate-heard.true)
          (c.loop-place.invariant.longest lone stands);
    }

pub loop-place-preserved-then-not-may_make_room : goal.loop-place-preserved-then-not-may_make_room
loop-place-preserved-then-not-may_make_room c =
    let lt : c.loop-place.place < length c.args.connections.now = grind (arith, common_steps) in
    record {
      found = further c.loop-place.place c.loop-place.longest c.loop-place.invariant.found;
      longest = λ lone stands. passed_by c.loop-place.place c.args.instance c.args.moment lone c.args.connections.now c.loop-place.longest
          c.loop-place.heard _ (slice_get-get_or c.args.connections.now c.loop-place.place _ lt)
          (λ may. absurd (true≢false (sym ((c.may_make_room.ensures lone stands).1 may) ∙ c.if-not-may_make_room.true)))
          (c.loop-place.invariant.longest lone stands);
    }

pub loop-place-preserved : goal.loop-place-preserved
loop-place-preserved c =
    let lt : c.loop-place.place < length c.args.connections.now = grind (arith, common_steps) in
    record {
      found = omega arith;
      longest = λ lone stands. longer_found c.loop-place.place c.args.instance c.args.moment lone c.args.connections.now
          c.loop-place.longest c.loop-place.heard _ (slice_get-get_or c.args.connections.now c.loop-place.place _ lt)
          (omega (arith, c.if-candidate-heard.false))
          ((c.may_make_room.ensures lone stands).0 c.if-not-may_make_room.false) (c.loop-place.invariant.longest lone stands);
    }

pub returns-clause-longest : goal.returns-clause-longest
returns-clause-longest c = λ lone stands.
    found c.loop-place.place c.args.instance c.args.moment lone c.args.connections.now c.loop-place.longest c.loop-place.heard
    (λ k s is. let lt = slice_get_within c.args.connections.now k s is in omega (arith, lt, c.loop-place-test.false))
    (c.loop-place.invariant.longest lone stands)
