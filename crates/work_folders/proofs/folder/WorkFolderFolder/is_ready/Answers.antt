use Rattle.work_folders.proofs.OfRuns.{links_of, looks_of}
use Rattle.work_folders.proofs.folder.WorkFolderFolder.is_ready.Goals as goal

pub is_ready-requires-clause-look : goal.is_ready-requires-clause-look
is_ready-requires-clause-look g c = looks_of g.D.Directory.may_look g.D.Directory.may_change g.D.Directory.is_settled
    c.self.inside.folders.work.start c.args.place.now.run
    (c.self.invariant c.args.place.now.run)

pub is_ready-requires-clause-link : goal.is_ready-requires-clause-link
is_ready-requires-clause-link g c = links_of g.D.Directory.may_look g.D.Directory.may_change g.D.Directory.is_settled
    c.self.inside.folders.work.start c.args.place.now.run
    (c.self.invariant c.args.place.now.run)
