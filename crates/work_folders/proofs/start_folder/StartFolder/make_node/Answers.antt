use Rattle.std.proofs.Common.{◌∙◌, map}
use Rattle.std.specs.Rc.{rc_str_bytes}
use Rattle.work_folders.proofs.Paths.{at_path, is_node, way_above}
use Rattle.work_folders.proofs.start_folder.StartFolder.make_node.Goals as goal

pub enter-requires : goal.enter-requires
enter-requires g c = record {
  may = way_above g.D.Directory.may_look c.self.inside.entrance c.args.run
      c.as_str.result.now c.parted.result.0.now c.parted.result.1.now
      (is_node c.args.run (map rc_str_bytes c.args.names.now) _ (c.as_str.ensures.value ∙ c.in_ok-path.ensures)) c.parted.ensures
      (rw (← c.self.view_is) at c.requires.look);
}

pub make_node_in-answer-requires : goal.make_node_in-answer-requires
make_node_in-answer-requires g c = record {
  may = rw c.in_ok-entered.ensures.place
      (at_path g.D.Directory.may_change c.self.inside.entrance c.args.run
      c.as_str.result.now c.parted.result.0.now c.parted.result.1.now
      (is_node c.args.run (map rc_str_bytes c.args.names.now) _ (c.as_str.ensures.value ∙ c.in_ok-path.ensures)) c.parted.ensures
      (rw (← c.self.view_is) at c.requires.change));
}
