use Rattle.work_folders.proofs.OfRuns.{changes_of, looks_of, tells_of}
use Rattle.work_folders.proofs.folder.WorkFolderFolder.make_working_directory.Goals as goal

pub make_working_directory-answer-requires-clause-look : goal.make_working_directory-answer-requires-clause-look
make_working_directory-answer-requires-clause-look g c = looks_of g.D.Directory.may_look g.D.Directory.may_change g.D.Directory.is_settled
    c.self.inside.folders.work.start c.args.place.now.run
    (c.self.invariant c.args.place.now.run)

pub make_working_directory-answer-requires-clause-change : goal.make_working_directory-answer-requires-clause-change
make_working_directory-answer-requires-clause-change g c = changes_of g.D.Directory.may_look g.D.Directory.may_change g.D.Directory.is_settled
    c.self.inside.folders.work.start c.args.place.now.run
    (c.self.invariant c.args.place.now.run)

pub make_working_directory-answer-requires-clause-tell : goal.make_working_directory-answer-requires-clause-tell
make_working_directory-answer-requires-clause-tell g c = tells_of g.D.Directory.may_look g.D.Directory.may_change g.D.Directory.is_settled
    c.self.inside.folders.work.start c.args.place.now.run
    (c.self.invariant c.args.place.now.run)
