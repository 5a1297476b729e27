use Rattle.std.proofs.Common.{subst, sym}
use Rattle.made_trees.specs.RunTrees.{AreClaimed}
use Rattle.made_trees.proofs.Others.{others_back, others_then}
use Rattle.made_trees.proofs.trees.RunTrees.claim.Goals as goal

pub returns-in-Ok-clause-claimed : goal.returns-in-Ok-clause-claimed
returns-in-Ok-clause-claimed c = subst (AreClaimed c.args.run c.args.trees.now)
    (sym c.add.ensures.trees) c.in-Ok.ensures.claimed

pub returns-in-Ok-clause-stays : goal.returns-in-Ok-clause-stays
returns-in-Ok-clause-stays c = others_then c.args.run c.args.self.now.store.trees
    c.give_back.new.self c.self.inside.store c.self.inside.runs.items c.claim_all.new.store.trees
    c.give_back.ensures.stays c.self.view_is c.in-Ok.ensures.stays

pub returns-in-Err-clause-stays : goal.returns-in-Err-clause-stays
returns-in-Err-clause-stays c = others_back c.args.run c.deref.result.now
    c.args.self.now.store.trees c.claim_all.new.store.trees c.give_all_back.new.store.trees
    (others_then c.args.run c.args.self.now.store.trees c.give_back.new.self c.self.inside.store
    c.self.inside.runs.items c.claim_all.new.store.trees c.give_back.ensures.stays c.self.view_is
    c.in-Err.ensures.stays) c.give_all_back.ensures.trees
