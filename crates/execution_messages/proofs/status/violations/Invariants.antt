use Rattle.std.proofs.Common.{◌≡◌, ◌++◌, length, map, string_bytes}
use Rattle.execution_messages.specs.Operations.{violation_shown}
use Rattle.execution_messages.specs.Statuses.{violation_of}
use Rattle.execution_messages.proofs.status.violations.Given as goal

abbrev pub invariant-loop-left : goal.invariant-loop-left
invariant-loop-left l =
    map violation_shown l.violations.items ++ map violation_of (map string_bytes l.left)
    ≡ map violation_of (map string_bytes l.subjects)

abbrev pub decreases-loop-left : goal.decreases-loop-left
decreases-loop-left l = length l.left
