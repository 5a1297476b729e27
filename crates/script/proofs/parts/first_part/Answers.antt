use Rattle.std.proofs.Common.{rules, ◌==◌, tests}
use Rattle.std.proofs.lemmas.Iterator.{YieldsList-from_slice}
use Rattle.std.proofs.lemmas.Iterator.Search.{position_from_yields_List}
use Rattle.script.proofs.PartsLemmas.{parts_at, parts_none}
use Rattle.script.proofs.parts.first_part.Goals as goal

pub returns-in-Some : goal.returns-in-Some
returns-in-Some c =
    parts_at c.args.separator c.args.text.now c.in-Some.at
    (position_from_yields_List (λ byte. byte == c.args.separator) _ _ _ c.in-Some.ensures.ran
    (YieldsList-from_slice c.args.text.now c.iter.ensures.rest) (λ x b q k. search (rules, tests)))

pub returns-in-None : goal.returns-in-None
returns-in-None c =
    parts_none c.args.separator c.args.text.now
    (position_from_yields_List (λ byte. byte == c.args.separator) _ _ _ c.in-None.ensures.ran
    (YieldsList-from_slice c.args.text.now c.iter.ensures.rest) (λ x b q k. search (rules, tests)))
