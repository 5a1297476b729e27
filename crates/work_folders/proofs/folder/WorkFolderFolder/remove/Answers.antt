use Rattle.work_folders.proofs.OfRuns.{removes_of}
use Rattle.work_folders.proofs.folder.WorkFolderFolder.remove.Goals as goal

pub remove-answer-requires-clause-remove : goal.remove-answer-requires-clause-remove
remove-answer-requires-clause-remove g c = removes_of g.D.Directory.may_look g.D.Directory.may_change g.D.Directory.is_settled
    c.self.inside.folders.work.start c.args.run
    (c.self.invariant c.args.run)

pub remove-answer-requires-clause-trees : goal.remove-answer-requires-clause-trees
remove-answer-requires-clause-trees g c = λ removal is. removes_of g.D.Directory.may_look g.D.Directory.may_change g.D.Directory.is_settled
    c.self.inside.folders.work.start removal.folder (c.self.invariant removal.folder)
