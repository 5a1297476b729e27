use Rattle.std.proofs.Common.{rules, tests, Some, None, option_map, sym, ap, ◌∙◌}
use Rattle.std.proofs.lemmas.Iterator.{YieldsList-from_slice}
use Rattle.std.proofs.lemmas.Iterator.Search.{find_from_yields_List}
use Rattle.std.specs.Str.{bytes_eq}
use Rattle.script.proofs.ConfigLemmas.{first_is_root-found}
use Rattle.script.proofs.replay.instance.first_is_root.Goals as goal

pub returns-in-Some : goal.returns-in-Some
returns-in-Some c =
    let found = find_from_yields_List (λ form. bytes_eq form.name.now c.args.name.now) _ _ _ c.find.ensures.ran
    (YieldsList-from_slice c.args.forms.now c.iter.ensures.rest) (λ x b q k. search (rules, tests)) in
    let first = first_is_root-found c.args.forms.now c.args.name.now (Some c.in-Some.form.now)
    (sym (ap (option_map (λ form. form.now)) c.in-Some.is) ∙ found) in
    search (rules, first)

pub returns-in-None : goal.returns-in-None
returns-in-None c =
    let found = find_from_yields_List (λ form. bytes_eq form.name.now c.args.name.now) _ _ _ c.find.ensures.ran
    (YieldsList-from_slice c.args.forms.now c.iter.ensures.rest) (λ x b q k. search (rules, tests)) in
    first_is_root-found c.args.forms.now c.args.name.now None (sym (ap (option_map (λ form. form.now)) c.in-None.is) ∙ found)
