use Rattle.std.proofs.Common.{◌∙◌, ◌<◌, ap, sym, subst, List, find, length, map, option_map, position}
use Rattle.run_programs.specs.declared.sought.Sought.{Sought}
use Rattle.run_programs.specs.Ways.{IsAmong, is_of, sought_of, sought_shown}
use Rattle.run_programs.proofs.Looking.{among_left, found, none_found}
use Rattle.run_programs.proofs.way.Way.take.Goals as goal

pub returns-in_err-at-in-AsTheyAre-clause-taken : goal.returns-in_err-at-in-AsTheyAre-clause-taken
returns-in_err-at-in-AsTheyAre-clause-taken c =
    ap (option_map sought_shown) c.from_residual.ensures
    ∙ none_found (is_of c.args.run) sought_shown c.in-AsTheyAre.sought.items
    (sym (c.in_err-at-in-AsTheyAre.ensures.place
    ∙ ap (position (λ s. is_of c.args.run (sought_shown s))) c.deref.ensures.value))
    ∙ ap (λ w. find (is_of c.args.run) (sought_of w)) (sym c.in-AsTheyAre.is)

pub returns-in_ok-at-in-AsTheyAre-clause-taken : goal.returns-in_ok-at-in-AsTheyAre-clause-taken
returns-in_ok-at-in-AsTheyAre-clause-taken c =
    found (is_of c.args.run) sought_shown c.in-AsTheyAre.sought.items
    c.in_ok-at-in-AsTheyAre.at c.remove.result
    (sym (c.in_ok-at-in-AsTheyAre.ensures.place
    ∙ ap (position (λ s. is_of c.args.run (sought_shown s))) c.deref.ensures.value))
    (subst (λ (xs : List Sought). c.in_ok-at-in-AsTheyAre.at < length xs) c.deref.ensures.value
    c.in_ok-at-in-AsTheyAre.ensures.within)
    c.remove.ensures.value
    ∙ ap (λ w. find (is_of c.args.run) (sought_of w)) (sym c.in-AsTheyAre.is)

pub returns-in_ok-at-in-AsTheyAre-clause-left : goal.returns-in_ok-at-in-AsTheyAre-clause-left
returns-in_ok-at-in-AsTheyAre-clause-left c = λ v m.
    subst (λ w. IsAmong v (sought_of w)) (sym c.in-AsTheyAre.is)
    (among_left sought_shown v c.in-AsTheyAre.sought.items c.in_ok-at-in-AsTheyAre.at
    (subst (λ (xs : List Sought). IsAmong v (map sought_shown xs)) c.remove.ensures.items m))
