use Rattle.std.proofs.Common.{◌≡◌, ◌++◌, length}
use Rattle.serve.specs.FaultLines.{escaped}
use Rattle.serve.proofs.error_lines.extend_escaped.Given as goal

abbrev pub invariant-bytes : goal.invariant-bytes
invariant-bytes l = l.line.items ++ escaped l.left ≡ l.fn.line.items ++ escaped l.bytes

abbrev pub decreases-bytes : goal.decreases-bytes
decreases-bytes l = length l.left
