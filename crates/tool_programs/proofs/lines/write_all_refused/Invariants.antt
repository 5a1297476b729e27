use Rattle.std.proofs.Common.{◌≡◌, ◌++◌, length, map}
use Rattle.server_core.specs.Shown.{refused_shown}
use Rattle.tool_programs.specs.Printed.{refusal_lines}
use Rattle.tool_programs.proofs.lines.write_all_refused.Given as goal

abbrev pub invariant-refused : goal.invariant-refused
invariant-refused l = l.text.items ++ refusal_lines l.instance (map refused_shown l.left) ≡ l.fn.text.items
    ++ refusal_lines l.instance (map refused_shown l.refused)

abbrev pub decreases-refused : goal.decreases-refused
decreases-refused l = length l.left
