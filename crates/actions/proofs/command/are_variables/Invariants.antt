use Rattle.std.proofs.Common.{◌≡◌, length, map}
use Rattle.std.specs.List.{list_all}
use Rattle.execution_messages.specs.Actions.{environment_variable_shown}
use Rattle.actions.specs.Commands.{is_variable}
use Rattle.actions.proofs.command.are_variables.Given as goal

abbrev pub invariant-loop-left : goal.invariant-loop-left
invariant-loop-left l =
    list_all is_variable (map environment_variable_shown l.left)
    ≡ list_all is_variable (map environment_variable_shown l.variables)

abbrev pub decreases-loop-left : goal.decreases-loop-left
decreases-loop-left l = length l.left
