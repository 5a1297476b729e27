use Rattle.std.proofs.Common.{◌≡◌, ◌++◌, length, map}
use Rattle.std.specs.Rc.{rc_str_bytes}
use Rattle.logs.proofs.copies.shared_names.Given as goal

abbrev pub invariant-loop-left : goal.invariant-loop-left
invariant-loop-left l = map rc_str_bytes l.same.items ++ map rc_str_bytes l.left ≡ map rc_str_bytes l.names

abbrev pub decreases-loop-left : goal.decreases-loop-left
decreases-loop-left l = length l.left
