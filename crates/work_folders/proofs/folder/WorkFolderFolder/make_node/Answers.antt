use Rattle.work_folders.proofs.OfRuns.{changes_of, looks_of}
use Rattle.made_trees.proofs.AnySite.{if_tree}
use Rattle.work_folders.proofs.folder.WorkFolderFolder.make_node.Goals as goal

pub make_node-answer-requires-clause-look : goal.make_node-answer-requires-clause-look
make_node-answer-requires-clause-look g c = looks_of g.D.Directory.may_look g.D.Directory.may_change g.D.Directory.is_settled
    c.self.inside.folders.work.start c.args.run
    (c.self.invariant c.args.run)

pub make_node-answer-requires-clause-change : goal.make_node-answer-requires-clause-change
make_node-answer-requires-clause-change g c = changes_of g.D.Directory.may_look g.D.Directory.may_change g.D.Directory.is_settled
    c.self.inside.folders.work.start c.args.run
    (c.self.invariant c.args.run)

pub make_node-answer-requires-clause-tree : goal.make_node-answer-requires-clause-tree
make_node-answer-requires-clause-tree g c = if_tree _ _ (λ folder. c.self.invariant folder)
