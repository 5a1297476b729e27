use Rattle.made_trees.proofs.Claimed.{next}
use Rattle.made_trees.proofs.Others.{all_twice}
use Rattle.made_trees.proofs.claims.claim_all.Goals as goal

pub returns-in_err-is_bound-clause-stays : goal.returns-in_err-is_bound-clause-stays
returns-in_err-is_bound-clause-stays c = all_twice c.args.store.now.trees c.trees.store.trees
    c.claim_one.new.store.trees c.trees.invariant.stays c.claim_one.ensures.stays

pub returns-in_err-push-clause-stays : goal.returns-in_err-push-clause-stays
returns-in_err-push-clause-stays c = all_twice c.args.store.now.trees c.trees.store.trees
    c.claim_one.new.store.trees c.trees.invariant.stays c.claim_one.ensures.stays

pub trees-preserved : goal.trees-preserved
trees-preserved c = next c.args.run c.args.store.now.trees c.args.trees.now c.trees.left.now
    c.first-item.result c.trees.store.trees c.claim_one.new.store.trees c.trees.own.items
    c.claim_one.new.own.items c.trees.bound.items c.push.new.self.items c.in_ok-is_bound.is_bound
    c.trees.invariant c.in-len1-up.len_at_least c.first-item.is c.in_ok-push.ensures.items
    c.in_ok-is_bound.ensures.own c.in_ok-is_bound.ensures.bound c.claim_one.ensures.stays

pub returns-clause-stays : goal.returns-clause-stays
returns-clause-stays c = c.trees.invariant.stays
