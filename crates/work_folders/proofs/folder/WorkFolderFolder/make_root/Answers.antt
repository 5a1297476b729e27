use Rattle.work_folders.proofs.OfRuns.{aside_of, removes_of, root_of}
use Rattle.work_folders.proofs.folder.WorkFolderFolder.make_root.Goals as goal

pub make_root-answer-requires-clause-root : goal.make_root-answer-requires-clause-root
make_root-answer-requires-clause-root g c = root_of g.D.Directory.may_look g.D.Directory.may_change g.D.Directory.is_settled
    c.self.inside.folders.work.start c.args.run
    (c.self.invariant c.args.run)

pub make_root-answer-requires-clause-aside : goal.make_root-answer-requires-clause-aside
make_root-answer-requires-clause-aside g c = aside_of g.D.Directory.may_look g.D.Directory.may_change g.D.Directory.is_settled
    c.self.inside.folders.work.start c.args.run
    (c.self.invariant c.args.run)

pub make_root-answer-requires-clause-trees : goal.make_root-answer-requires-clause-trees
make_root-answer-requires-clause-trees g c = λ removal is. removes_of g.D.Directory.may_look g.D.Directory.may_change g.D.Directory.is_settled
    c.self.inside.folders.work.start removal.folder (c.self.invariant removal.folder)
