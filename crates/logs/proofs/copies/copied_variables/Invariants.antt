use Rattle.std.proofs.Common.{◌≡◌, ◌++◌, length, map}
use Rattle.run_calls.specs.Values.{variable_shown}
use Rattle.logs.proofs.copies.copied_variables.Given as goal

abbrev pub invariant-loop-left : goal.invariant-loop-left
invariant-loop-left l = map variable_shown l.copy.items ++ map variable_shown l.left ≡ map variable_shown l.variables

abbrev pub decreases-loop-left : goal.decreases-loop-left
decreases-loop-left l = length l.left
