use Rattle.made_trees.specs.Trees.{key_of}
use Rattle.made_trees.proofs.Claimed.{bound_used}
use Rattle.made_trees.proofs.Others.{all_claimed}
use Rattle.made_trees.proofs.claims.claim_one.Goals as goal

pub returns-in-Bound-clause-bound : goal.returns-in-Bound-clause-bound
returns-in-Bound-clause-bound c = λ _. bound_used c.args.run (key_of c.args.run c.args.tree.now.digest)
    c.args.tree.now.size c.in_ok-claim.field-0 c.in-Bound.field-0 c.args.store.now c.claim.new.self
    c.in-Bound.is c.in_ok-claim.ensures.claimed

pub returns-in-Bound-clause-stays : goal.returns-in-Bound-clause-stays
returns-in-Bound-clause-stays c = all_claimed c.args.run (key_of c.args.run c.args.tree.now.digest)
    c.args.tree.now.size c.in_ok-claim.field-0 c.args.store.now c.claim.new.self
    c.in_ok-claim.ensures.claimed

pub returns-in-Make-clause-stays : goal.returns-in-Make-clause-stays
returns-in-Make-clause-stays c = all_claimed c.args.run (key_of c.args.run c.args.tree.now.digest)
    c.args.tree.now.size c.in_ok-claim.field-0 c.args.store.now c.claim.new.self
    c.in_ok-claim.ensures.claimed

pub returns-in-Waits-2-clause-stays : goal.returns-in-Waits-2-clause-stays
returns-in-Waits-2-clause-stays c = all_claimed c.args.run (key_of c.args.run c.args.tree.now.digest)
    c.args.tree.now.size c.in_ok-claim.field-0 c.args.store.now c.claim.new.self
    c.in_ok-claim.ensures.claimed
