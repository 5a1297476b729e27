use Rattle.std.proofs.Common.{arith, refl}
use Rattle.serve.proofs.Open.{all_taken, found_free, one_taken}
use Rattle.serve.proofs.numbering.number_after.Goals as goal

pub returns-then-not-is_taken : goal.returns-then-not-is_taken
returns-then-not-is_taken c = found_free _ c.args.number c.args.connections.now _
    (λ is. omega (arith, is, c.loop-before.auto.before)) c.is_taken.ensures c.if-not-is_taken.true

pub loop-before-preserved : goal.loop-before-preserved
loop-before-preserved c = one_taken c.args.connections.now _ _ _ _ refl c.is_taken.ensures
    c.if-not-is_taken.false c.loop-before.invariant

pub returns-then-not-is_taken-2 : goal.returns-then-not-is_taken-2
returns-then-not-is_taken-2 c = found_free _ c.args.number c.args.connections.now _
    (λ is. omega (arith, is, c.loop-next-test.true)) c.is_taken-in-loop-next.ensures
    c.if-not-is_taken-2.true

pub loop-next-preserved : goal.loop-next-preserved
loop-next-preserved c = one_taken c.args.connections.now _ _ _ _ refl
    c.is_taken-in-loop-next.ensures c.if-not-is_taken-2.false c.loop-next.invariant

pub returns : goal.returns
returns c = all_taken c.args.connections.now c.args.number _
    (λ n le lt. c.loop-before.invariant n le (omega (arith, lt, c.loop-before-test.false)))
    (λ n le lt. c.loop-next.invariant n le (omega (arith, lt, c.loop-next-test.false)))
