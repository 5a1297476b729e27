use Rattle.work_folders.proofs.OfRuns.{changes_of, looks_of}
use Rattle.made_trees.proofs.AnySite.{if_tree}
use Rattle.work_folders.proofs.folder.WorkFolderFolder.write.Goals as goal

pub write-answer-requires-clause-look : goal.write-answer-requires-clause-look
write-answer-requires-clause-look g c = looks_of g.D.Directory.may_look g.D.Directory.may_change g.D.Directory.is_settled
    c.self.inside.folders.work.start c.args.run
    (c.self.invariant c.args.run)

pub write-answer-requires-clause-change : goal.write-answer-requires-clause-change
write-answer-requires-clause-change g c = changes_of g.D.Directory.may_look g.D.Directory.may_change g.D.Directory.is_settled
    c.self.inside.folders.work.start c.args.run
    (c.self.invariant c.args.run)

pub write-answer-requires-clause-tree : goal.write-answer-requires-clause-tree
write-answer-requires-clause-tree g c = if_tree _ _ (λ folder. c.self.invariant folder)
