use Rattle.std.proofs.Common.{◌∙◌, ap, refl, string_bytes}
use Rattle.run_calls.specs.Values.{command_shown, place_shown}
use Rattle.run_folders.specs.Folders.{working_path}
use Rattle.run_programs.specs.Spawning.{StartsItself}
use Rattle.run_programs.specs.Ways.{sought_for, sought_of, sought_shown}
use Rattle.run_programs.proofs.Looking.{adds_one, shown_as}
use Rattle.run_programs.proofs.Starts.{found_starts}
use Rattle.run_programs.proofs.programs.Table.seek.Goals as goal

pub returns-in-Found-clause-starts : goal.returns-in-Found-clause-starts
returns-in-Found-clause-starts g c = found_starts
    (λ directory command. StartsItself c.args.self.now.has_sessions directory command)
    (sought_for c.args.self.now (place_shown c.args.place.now) (command_shown c.args.ordered.now))
    c.as_str-in-Found.result.now (command_shown c.args.ordered.now) c.start_found.result _ _
    (c.as_str-in-Found.ensures.value ∙ c.in_ok-directory.ensures
    ∙ ap (λ work. working_path work (place_shown c.args.place.now)) c.as_str.ensures.value) refl
    c.start_found.ensures.starts

pub returns-in_ok-add-in-GoesOn-clause-sought : goal.returns-in_ok-add-in-GoesOn-clause-sought
returns-in_ok-add-in-GoesOn-clause-sought g c =
    let s = c.in_ok-sought-in-GoesOn.ensures in
    adds_one
    (sought_for c.args.self.now (place_shown c.args.place.now) (command_shown c.args.ordered.now))
    (sought_shown c.in_ok-sought-in-GoesOn.sought) (sought_of c.args.self.now.way)
    (sought_of c.add.new.self) c.in_ok-add-in-GoesOn.ensures.added
    (shown_as c.in_ok-sought-in-GoesOn.sought c.args.place.now.run
    (working_path (string_bytes c.args.self.now.work) (place_shown c.args.place.now))
    (command_shown c.args.ordered.now) s.run
    (ap string_bytes s.directory ∙ c.in_ok-directory.ensures
    ∙ ap (λ work. working_path work (place_shown c.args.place.now)) c.as_str.ensures.value)
    s.command)
