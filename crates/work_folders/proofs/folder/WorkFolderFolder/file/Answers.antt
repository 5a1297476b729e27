use Rattle.work_folders.proofs.OfRuns.{looks_of}
use Rattle.work_folders.proofs.folder.WorkFolderFolder.file.Goals as goal

pub file-answer-requires : goal.file-answer-requires
file-answer-requires g c = record {
  look = looks_of g.D.Directory.may_look g.D.Directory.may_change g.D.Directory.is_settled
      c.self.inside.folders.work.start c.args.place.now.run
      (c.self.invariant c.args.place.now.run);
}
