use Rattle.std.proofs.Common.{◌≡◌, ◌++◌, length, map}
use Rattle.run_calls.specs.Values.{entry_shown}
use Rattle.logs.proofs.copies.copied_entries.Given as goal

abbrev pub invariant-loop-left : goal.invariant-loop-left
invariant-loop-left l = map entry_shown l.copy.items ++ map entry_shown l.left ≡ map entry_shown l.entries

abbrev pub decreases-loop-left : goal.decreases-loop-left
decreases-loop-left l = length l.left
