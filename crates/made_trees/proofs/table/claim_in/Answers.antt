use Rattle.std.proofs.Common.{◌∙◌, ap, sym}
use Rattle.std.specs.Map.{set_value}
use Rattle.made_trees.specs.Trees.{TreeValue, same_tree}
use Rattle.made_trees.proofs.Keeping.{found_so, on_err, set_same}
use Rattle.made_trees.proofs.table.claim_in.Goals as goal

pub returns-in_err-claim-in-Some-clause-err : goal.returns-in_err-claim-in-Some-clause-err
returns-in_err-claim-in-Some-clause-err c = on_err c.from_residual.result
    ((c.get_mut.follows.holds c.claim.new.self).0
    ∙ ap (λ (t : TreeValue). set_value (same_tree c.args.key.now) c.args.trees.now.entries t)
    c.in_err-claim-in-Some.ensures.err
    ∙ set_same (same_tree c.args.key.now) c.args.trees.now.entries c.in-Some.tree.now (sym c.in-Some.ensures.value))

pub returns-in_ok-claim-in-Some-clause-some : goal.returns-in_ok-claim-in-Some-clause-some
returns-in_ok-claim-in-Some-clause-some c = found_so c.args.run c.args.key.now c.args.trees.now.entries
    (c.get_mut.follows.lender c.claim.new.self).entries c.in-Some.tree.now c.claim.new.self
    c.in_ok-claim-in-Some.field-0 c.requires.own (sym c.in-Some.ensures.value)
    (c.get_mut.follows.holds c.claim.new.self).0 c.in_ok-claim-in-Some.ensures.seen
