use Rattle.std.proofs.Common.{refl}
use Rattle.serve.proofs.exchange.exchange.Goals as goal

pub returns-in-Some-clause-stays : goal.returns-in-Some-clause-stays
returns-in-Some-clause-stays g c = λ count before after next has.
    c.close.ensures.closes count before c.receive_all-received.new.opened after next c.args.moment refl
    (c.send-sent.ensures.stays count _ next c.args.moment (c.receive_all-received.ensures.stays count before after next has))

pub returns-then-eq-3-clause-stays : goal.returns-then-eq-3-clause-stays
returns-then-eq-3-clause-stays g c = λ count before after next has.
    c.send-sent.ensures.stays count _ next c.args.moment (c.receive_all-received.ensures.stays count before after next has)

pub returns-clause-stays : goal.returns-clause-stays
returns-clause-stays g c = λ count before after next has.
    c.send-sent.ensures.stays count _ next c.args.moment (c.receive_all-received.ensures.stays count before after next has)
