use Rattle.std.proofs.Common.{ap, string_bytes, sym}
use Rattle.run_calls.specs.Values.{command_shown, place_shown}
use Rattle.run_folders.specs.Folders.{root_path, working_path}
use Rattle.run_programs.specs.Launching.{StartsLauncher}
use Rattle.run_programs.specs.Spawning.{StartsItself}
use Rattle.run_programs.specs.Known.{started_as}
use Rattle.run_programs.specs.Ways.{launcher_of}
use Rattle.run_programs.proofs.Known.{known_as}
use Rattle.run_programs.proofs.Starts.{as_they_are, launched, of_this}
use Rattle.run_programs.proofs.programs.Table.start.Goals as goal

pub returns-in_ok-command-in-By-clause-starts : goal.returns-in_ok-command-in-By-clause-starts
returns-in_ok-command-in-By-clause-starts g c = launched
    (λ launcher. StartsLauncher c.args.self.now.has_sessions launcher (place_shown c.args.place.now)
    (root_path (string_bytes c.args.self.now.work) c.args.place.now.run.instance
    c.args.place.now.run.job) (command_shown c.args.ordered.now))
    (StartsItself c.args.self.now.has_sessions (working_path (string_bytes c.args.self.now.work)
    (place_shown c.args.place.now)) (command_shown c.args.ordered.now))
    (launcher_of c.args.self.now.way) c.in-By.launcher c.launch.result _ _
    (ap launcher_of c.in-By.is)
    (of_this _ (g.S.Command.Command.shown c.in_ok-command-in-By.command) c.launch.result _ _
    c.in_ok-command-in-By.ensures c.launch.ensures.starts)

pub returns-in-AsTheyAre-clause-starts : goal.returns-in-AsTheyAre-clause-starts
returns-in-AsTheyAre-clause-starts g c = as_they_are
    (λ launcher. StartsLauncher c.args.self.now.has_sessions launcher (place_shown c.args.place.now)
    (root_path (string_bytes c.args.self.now.work) c.args.place.now.run.instance
    c.args.place.now.run.job) (command_shown c.args.ordered.now))
    (StartsItself c.args.self.now.has_sessions (working_path (string_bytes c.args.self.now.work)
    (place_shown c.args.place.now)) (command_shown c.args.ordered.now))
    (launcher_of c.args.self.now.way) c.seek.result _ _
    (ap launcher_of c.in-AsTheyAre.is) c.seek.ensures.starts

pub returns-in_ok-command-in-By-clause-known : goal.returns-in_ok-command-in-By-clause-known
returns-in_ok-command-in-By-clause-known g c = known_as _ _ _ _ _ (sym (ap started_as c.in-By.is))
    c.launch.ensures.known

pub returns-in-AsTheyAre-clause-known : goal.returns-in-AsTheyAre-clause-known
returns-in-AsTheyAre-clause-known g c = known_as _ _ _ _ _ (sym (ap started_as c.in-AsTheyAre.is))
    c.seek.ensures.known
