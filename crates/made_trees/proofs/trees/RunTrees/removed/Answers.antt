use Rattle.made_trees.proofs.Others.{when_removed}
use Rattle.made_trees.proofs.trees.RunTrees.removed.Goals as goal

pub returns-clause-stays : goal.returns-clause-stays
returns-clause-stays c = when_removed c.args.key.now c.self.inside.store c.removed.new.self
    c.self.inside.runs.items c.args.self.now c.self.view_is c.removed.ensures
