use Rattle.std.proofs.Common.{◌≡◌, ◌++◌, length}
use Rattle.tool_programs.specs.Printed.{stray_lines}
use Rattle.tool_programs.proofs.lines.write_strays.Given as goal

abbrev pub invariant-strays : goal.invariant-strays
invariant-strays l = l.text.items ++ stray_lines l.left ≡ l.fn.text.items ++ stray_lines l.strays

abbrev pub decreases-strays : goal.decreases-strays
decreases-strays l = length l.left
