use Rattle.made_trees.proofs.Others.{when_finished}
use Rattle.made_trees.proofs.trees.RunTrees.finish.Goals as goal

pub returns-clause-stays : goal.returns-clause-stays
returns-clause-stays c = when_finished c.args.run c.trees_of.result.now c.self.inside.store c.self.inside.runs.items
    c.args.self.now c.finish_all.new.store.trees c.self.view_is c.finish_all.ensures.trees
