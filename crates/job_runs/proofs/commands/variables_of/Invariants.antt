use Rattle.std.proofs.Common.{◌≡◌, ◌++◌, length, map}
use Rattle.execution_messages.specs.Actions.{environment_variable_shown}
use Rattle.run_calls.specs.Values.{variable_shown}
use Rattle.job_runs.specs.Tasks.{variable_of}
use Rattle.job_runs.proofs.commands.variables_of.Given as goal

abbrev pub invariant-loop-left : goal.invariant-loop-left
invariant-loop-left l =
    map variable_shown l.made.items ++ map variable_of (map environment_variable_shown l.left)
    ≡ map variable_of (map environment_variable_shown l.variables)

abbrev pub decreases-loop-left : goal.decreases-loop-left
decreases-loop-left l = length l.left
