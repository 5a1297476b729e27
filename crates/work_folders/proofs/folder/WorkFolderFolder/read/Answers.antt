use Rattle.work_folders.proofs.OfRuns.{links_of, looks_of}
use Rattle.work_folders.proofs.folder.WorkFolderFolder.read.Goals as goal

pub read-answer-requires-clause-look : goal.read-answer-requires-clause-look
read-answer-requires-clause-look g c = looks_of g.D.Directory.may_look g.D.Directory.may_change g.D.Directory.is_settled
    c.self.inside.folders.work.start c.args.place.now.run
    (c.self.invariant c.args.place.now.run)

pub read-answer-requires-clause-link : goal.read-answer-requires-clause-link
read-answer-requires-clause-link g c = links_of g.D.Directory.may_look g.D.Directory.may_change g.D.Directory.is_settled
    c.self.inside.folders.work.start c.args.place.now.run
    (c.self.invariant c.args.place.now.run)
