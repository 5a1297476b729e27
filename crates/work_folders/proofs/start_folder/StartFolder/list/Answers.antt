use Rattle.std.proofs.Common.{◌∙◌, map, string_bytes}
use Rattle.run_calls.specs.Values.{place_shown}
use Rattle.work_folders.proofs.Paths.{each_in_path, in_path, is_left, way_to}
use Rattle.work_folders.proofs.start_folder.StartFolder.list.Goals as goal

pub enter-requires : goal.enter-requires
enter-requires g c = record {
  may = way_to g.D.Directory.may_look c.self.inside.entrance
      c.args.place.now.run c.as_str.result.now
      (is_left (place_shown c.args.place.now) c.args.path.now (map string_bytes c.args.names.now)
      c.as_str.result.now (c.as_str.ensures.value ∙ c.in_ok-path.ensures))
      (rw (← c.self.view_is) at c.requires.look);
}

pub list_in-answer-requires-clause-may : goal.list_in-answer-requires-clause-may
list_in-answer-requires-clause-may g c = rw c.in_ok-entered.ensures.place
    (in_path g.D.Directory.may_look c.self.inside.entrance c.args.place.now.run c.as_str.result.now
    (is_left (place_shown c.args.place.now) c.args.path.now (map string_bytes c.args.names.now)
    c.as_str.result.now (c.as_str.ensures.value ∙ c.in_ok-path.ensures))
    (rw (← c.self.view_is) at c.requires.look))

pub list_in-answer-requires-clause-entries : goal.list_in-answer-requires-clause-entries
list_in-answer-requires-clause-entries g c = λ name. rw c.in_ok-entered.ensures.place
    (each_in_path g.D.Directory.may_look c.self.inside.entrance c.args.place.now.run
    c.as_str.result.now
    (is_left (place_shown c.args.place.now) c.args.path.now (map string_bytes c.args.names.now)
    c.as_str.result.now (c.as_str.ensures.value ∙ c.in_ok-path.ensures))
    (rw (← c.self.view_is) at c.requires.look) name)
