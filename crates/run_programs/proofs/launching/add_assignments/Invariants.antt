use Rattle.std.proofs.Common.{◌≡◌, ◌++◌, length, map, string_bytes}
use Rattle.run_calls.specs.Values.{variable_shown}
use Rattle.run_programs.specs.Launching.{assignment}
use Rattle.run_programs.proofs.launching.add_assignments.Given as goal

abbrev pub invariant-loop-left : goal.invariant-loop-left
invariant-loop-left l =
    map string_bytes l.words.items ++ map assignment (map variable_shown l.left)
    ≡ map string_bytes l.fn.words.items ++ map assignment (map variable_shown l.variables)

abbrev pub decreases-loop-left : goal.decreases-loop-left
decreases-loop-left l = length l.left
