use Rattle.std.proofs.Common.{◌∙◌, []}
use Rattle.run_calls.specs.Values.{place_shown}
use Rattle.work_folders.proofs.Paths.{is_left, way_to}
use Rattle.work_folders.proofs.start_folder.StartFolder.make_directory.Goals as goal

pub make-requires-clause-may : goal.make-requires-clause-may
make-requires-clause-may g c = way_to g.D.Directory.may_look c.self.inside.entrance c.args.place.now.run
    c.as_str.result.now (is_left (place_shown c.args.place.now) c.args.path.now [] c.as_str.result.now
    (c.as_str.ensures.value ∙ c.in_ok-path.ensures)) (rw (← c.self.view_is) at c.requires.look)

pub make-requires-clause-change : goal.make-requires-clause-change
make-requires-clause-change g c = way_to g.D.Directory.may_change c.self.inside.entrance c.args.place.now.run
    c.as_str.result.now (is_left (place_shown c.args.place.now) c.args.path.now [] c.as_str.result.now
    (c.as_str.ensures.value ∙ c.in_ok-path.ensures)) (rw (← c.self.view_is) at c.requires.change)
