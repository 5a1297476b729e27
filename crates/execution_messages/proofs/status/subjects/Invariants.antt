use Rattle.std.proofs.Common.{◌≡◌, ◌++◌, length, map, string_bytes}
use Rattle.execution_messages.specs.Statuses.{subject_of}
use Rattle.execution_messages.proofs.status.subjects.Given as goal

abbrev pub invariant-loop-left : goal.invariant-loop-left
invariant-loop-left l =
    map string_bytes l.texts.items ++ map subject_of l.left ≡ map subject_of l.digests

abbrev pub decreases-loop-left : goal.decreases-loop-left
decreases-loop-left l = length l.left
