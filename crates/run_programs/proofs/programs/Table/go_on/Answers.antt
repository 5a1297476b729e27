use Rattle.std.proofs.Common.{◌∙◌, ap}
use Rattle.run_calls.specs.Values.{command_shown}
use Rattle.run_programs.specs.Spawning.{StartsItself}
use Rattle.run_programs.specs.Ways.{SoughtValue, sought_of, sought_shown}
use Rattle.run_programs.proofs.Looking.{adds_one}
use Rattle.run_programs.proofs.Starts.{found_starts}
use Rattle.run_programs.proofs.programs.Table.go_on.Goals as goal

pub returns-in-Found-clause-starts : goal.returns-in-Found-clause-starts
returns-in-Found-clause-starts g c = found_starts
    (λ directory command. StartsItself c.args.self.now.has_sessions directory command)
    (sought_shown c.args.sought) c.directory.result.now (command_shown c.ordered.result.now)
    c.start_found.result _ _
    (c.directory.ensures ∙ ap (λ (v : SoughtValue). v.directory) c.go_on.ensures)
    (ap command_shown c.ordered.ensures ∙ ap (λ (v : SoughtValue). v.command) c.go_on.ensures)
    c.start_found.ensures.starts

pub returns-in_ok-add-in-GoesOn-clause-sought : goal.returns-in_ok-add-in-GoesOn-clause-sought
returns-in_ok-add-in-GoesOn-clause-sought g c = adds_one (sought_shown c.args.sought)
    (sought_shown c.go_on.new.self) (sought_of c.args.self.now.way) (sought_of c.add.new.self)
    c.in_ok-add-in-GoesOn.ensures.added c.go_on.ensures
