use Rattle.std.proofs.Common.{sym, ◌∙◌}
use Rattle.instance_view.specs.Shown.{text_seen, visible_in}
use Rattle.instance_view.proofs.Either.{own_text, parents_text}
use Rattle.instance_view.proofs.sight.find_in_either.Goals as goal

pub returns-in-Some-clause-text : goal.returns-in-Some-clause-text
returns-in-Some-clause-text c = λ p.
    sym (own_text c.args.digest.now (visible_in p c.args.own.now) (visible_in p c.args.parent.now) (text_seen p c.in-Some.seen)
    (sym (c.in-Some.ensures.text p)))

pub returns-in-None-clause-text : goal.returns-in-None-clause-text
returns-in-None-clause-text c = λ p.
    c.get-in-None.ensures.text p
    ∙ sym (parents_text c.args.digest.now (visible_in p c.args.own.now) (visible_in p c.args.parent.now) (sym (c.in-None.ensures.text p)))
