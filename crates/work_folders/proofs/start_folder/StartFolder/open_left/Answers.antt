use Rattle.work_folders.proofs.Paths.{at_path, way_above}
use Rattle.work_folders.proofs.start_folder.StartFolder.open_left.Goals as goal

pub enter-requires : goal.enter-requires
enter-requires g c = record {
  may = way_above g.D.Directory.may_look c.self.inside.entrance c.args.run
      c.args.path.now c.parted.result.0.now c.parted.result.1.now c.requires.below c.parted.ensures
      (rw (← c.self.view_is) at c.requires.look);
}

pub open-answer-requires-clause-may : goal.open-answer-requires-clause-may
open-answer-requires-clause-may g c = rw c.in_ok-entered.ensures.place
    (at_path g.D.Directory.may_look c.self.inside.entrance c.args.run
    c.args.path.now c.parted.result.0.now c.parted.result.1.now c.requires.below c.parted.ensures
    (rw (← c.self.view_is) at c.requires.look))

pub read_in-requires-clause-may : goal.read_in-requires-clause-may
read_in-requires-clause-may g c = rw c.in_ok-entered.ensures.place
    (at_path g.D.Directory.may_look c.self.inside.entrance c.args.run
    c.args.path.now c.parted.result.0.now c.parted.result.1.now c.requires.below c.parted.ensures
    (rw (← c.self.view_is) at c.requires.look))
