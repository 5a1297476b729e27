use Rattle.std.proofs.Common.{◌∙◌, map, string_bytes}
use Rattle.run_calls.specs.Values.{place_shown}
use Rattle.work_folders.proofs.Paths.{at_path, is_left, way_above}
use Rattle.work_folders.proofs.start_folder.StartFolder.look.Goals as goal

pub enter_if_there-requires : goal.enter_if_there-requires
enter_if_there-requires g c = record {
  may = way_above g.D.Directory.may_look c.self.inside.entrance
      c.args.place.now.run c.as_str.result.now c.parted.result.0.now c.parted.result.1.now
      (is_left (place_shown c.args.place.now) c.args.path.now (map string_bytes c.args.names.now)
      c.as_str.result.now (c.as_str.ensures.value ∙ c.in_ok-path.ensures)) c.parted.ensures
      (rw (← c.self.view_is) at c.requires.look);
}

pub look_at-answer-requires : goal.look_at-answer-requires
look_at-answer-requires g c = record {
  may = rw (rw c.in-Some.is at c.in_ok-entered.ensures.place)
      (at_path g.D.Directory.may_look c.self.inside.entrance
      c.args.place.now.run c.as_str.result.now c.parted.result.0.now c.parted.result.1.now
      (is_left (place_shown c.args.place.now) c.args.path.now (map string_bytes c.args.names.now)
      c.as_str.result.now (c.as_str.ensures.value ∙ c.in_ok-path.ensures)) c.parted.ensures
      (rw (← c.self.view_is) at c.requires.look));
}
