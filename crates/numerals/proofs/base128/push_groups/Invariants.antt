use Rattle.std.proofs.Common.{◌≡◌, ◌++◌}
use Rattle.numerals.specs.Groups.{groups, BeginsWith}
use Rattle.numerals.proofs.base128.push_groups.Given as goal

abbrev pub invariant-loop-left : goal.invariant-loop-left
invariant-loop-left l = (l.out.items ++ groups l.left ≡ l.fn.out.items ++ groups l.number) × BeginsWith l.out.items l.fn.out.items

abbrev pub decreases-loop-left : goal.decreases-loop-left
decreases-loop-left l = l.left
