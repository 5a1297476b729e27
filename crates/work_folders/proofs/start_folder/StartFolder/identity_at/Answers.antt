use Rattle.work_folders.proofs.Paths.{in_path, way_to}
use Rattle.work_folders.proofs.start_folder.StartFolder.identity_at.Goals as goal

pub enter-requires : goal.enter-requires
enter-requires g c = record {
  may = way_to g.D.Directory.may_look c.self.inside.entrance c.args.run c.args.path.now c.requires.below
      (rw (← c.self.view_is) at c.requires.look);
}

pub identity_of-answer-requires : goal.identity_of-answer-requires
identity_of-answer-requires g c = record {
  may = rw c.in_ok-entered.ensures.place
      (in_path g.D.Directory.may_look c.self.inside.entrance c.args.run c.args.path.now c.requires.below
      (rw (← c.self.view_is) at c.requires.look));
}
