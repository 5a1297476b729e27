use Rattle.made_trees.proofs.Claimed.{is_gone, others_left}
use Rattle.made_trees.proofs.Others.{when_given_back}
use Rattle.made_trees.proofs.trees.RunTrees.give_back.Goals as goal

pub returns-clause-stays : goal.returns-clause-stays
returns-clause-stays c = when_given_back c.args.run c.trees_of.result.now c.self.inside.store c.self.inside.runs.items
    c.args.self.now c.give_all_back.new.store.trees c.self.view_is c.give_all_back.ensures.trees

pub returns-clause-gone : goal.returns-clause-gone
returns-clause-gone c = is_gone c.args.run c.self.inside.runs.items c.take_out.new.runs.items
    c.take_out.ensures

pub returns-clause-others : goal.returns-clause-others
returns-clause-others c = others_left c.args.run c.self.inside.store c.self.inside.runs.items
    c.take_out.new.runs.items c.args.self.now c.self.view_is c.take_out.ensures
