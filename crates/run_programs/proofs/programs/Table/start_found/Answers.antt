use Rattle.std.proofs.Common.{◌∙◌, List, ap, map, string_bytes}
use Rattle.run_calls.specs.declared.task.Variable.{Variable}
use Rattle.run_calls.specs.Values.{command_shown, variable_shown}
use Rattle.run_programs.specs.Spawning.{StartsItself, set_by}
use Rattle.run_programs.proofs.Starts.{given_variables, of_this}
use Rattle.run_programs.proofs.programs.Table.start_found.Goals as goal

pub returns-clause-starts : goal.returns-clause-starts
returns-clause-starts g c = of_this
    (StartsItself c.args.self.now.has_sessions c.args.directory.now
    (command_shown c.args.ordered.now))
    (g.S.Command.Command.shown c.add_variables.new.command) _ _ _
    (given_variables c.args.self.now.has_sessions c.args.directory.now
    (command_shown c.args.ordered.now) (map string_bytes c.deref.result.now)
    (g.S.Command.Command.shown c.in_ok-command.command)
    (g.S.Command.Command.shown c.add_variables.new.command)
    (ap (map string_bytes) c.deref.ensures.value) c.in_ok-command.ensures
    c.in_ok-add_variables.ensures.words c.in_ok-add_variables.ensures.cleared
    (λ name. c.in_ok-add_variables.ensures.variables name
    ∙ ap (λ (vs : List Variable). set_by (map variable_shown vs) name
    ((g.S.Command.Command.shown c.in_ok-command.command).variable name)) c.deref-2.ensures.value)
    c.in_ok-add_variables.ensures.directory)
    c.launch.ensures.starts
