use Rattle.std.proofs.Common.{◌∙◌, map}
use Rattle.std.specs.Rc.{rc_str_bytes}
use Rattle.work_folders.proofs.Paths.{at_path, is_node, way_above}
use Rattle.work_folders.proofs.start_folder.StartFolder.write.Goals as goal

pub enter-requires : goal.enter-requires
enter-requires g c = record {
  may = way_above g.D.Directory.may_look c.self.inside.entrance c.args.run
      c.as_str-in-None.result.now c.parted.result.0.now c.parted.result.1.now
      (is_node c.args.run (map rc_str_bytes c.args.names.now) c.as_str-in-None.result.now
      (c.as_str-in-None.ensures.value ∙ c.in_ok-path.ensures)) c.parted.ensures
      (rw (← c.self.view_is) at c.requires.look);
}

pub add_in-answer-requires-clause-may : goal.add_in-answer-requires-clause-may
add_in-answer-requires-clause-may g c = rw c.in_ok-entered-in-None.ensures.place
    (at_path g.D.Directory.may_look c.self.inside.entrance c.args.run
    c.as_str-in-None.result.now c.parted.result.0.now c.parted.result.1.now
    (is_node c.args.run (map rc_str_bytes c.args.names.now) c.as_str-in-None.result.now
    (c.as_str-in-None.ensures.value ∙ c.in_ok-path.ensures)) c.parted.ensures
    (rw (← c.self.view_is) at c.requires.look))

pub add_in-answer-requires-clause-change : goal.add_in-answer-requires-clause-change
add_in-answer-requires-clause-change g c = rw c.in_ok-entered-in-None.ensures.place
    (at_path g.D.Directory.may_change c.self.inside.entrance c.args.run
    c.as_str-in-None.result.now c.parted.result.0.now c.parted.result.1.now
    (is_node c.args.run (map rc_str_bytes c.args.names.now) c.as_str-in-None.result.now
    (c.as_str-in-None.ensures.value ∙ c.in_ok-path.ensures)) c.parted.ensures
    (rw (← c.self.view_is) at c.requires.change))
