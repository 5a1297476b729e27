use Rattle.std.proofs.Common.{◌≡◌, ◌<◌, length, arith}
use Rattle.std.proofs.lemmas.Bool.Decides.{nat_tests}
use Rattle.actions.proofs.Steps.{planned, unplanned}
use Rattle.actions.proofs.tree_walk.TreeWalk.end.Goals as goal

pub returns-then-is_empty : goal.returns-then-is_empty
returns-then-is_empty c = λ look leads.
    let is = c.is_empty.ensures in
    let empty = c.if-is_empty.true in
    let none : length c.args.self.missing.items ≡ 0 = grind (arith, nat_tests) in
    planned look c.args.self leads c.requires.over none

pub returns : goal.returns
returns c = λ look leads.
    let is = c.is_empty.ensures in
    let full = c.if-is_empty.false in
    let some : 0 < length c.args.self.missing.items = grind (arith, nat_tests) in
    unplanned look c.args.self leads c.requires.over some
