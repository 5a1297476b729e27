use Rattle.std.proofs.Common.{◌≡◌, ◌++◌, length, map}
use Rattle.server_core.specs.Shown.{sent_shown}
use Rattle.tool_programs.specs.Printed.{sent_lines}
use Rattle.tool_programs.proofs.lines.write_all_sent.Given as goal

abbrev pub invariant-sent : goal.invariant-sent
invariant-sent l = l.text.items ++ sent_lines l.instance (map sent_shown l.left) ≡ l.fn.text.items
    ++ sent_lines l.instance (map sent_shown l.sent)

abbrev pub decreases-sent : goal.decreases-sent
decreases-sent l = length l.left
