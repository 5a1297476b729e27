use Rattle.std.proofs.Common.{◌≡◌, ◌-◌, length, map}
use Rattle.outcomes.specs.Gathering.{down_to, open_shown}
use Rattle.outcomes.proofs.gathering.open_down.Given as goal

abbrev pub invariant-loop-alloc : goal.invariant-loop-alloc
invariant-loop-alloc l = down_to l.level (map open_shown l.going.items) ≡ down_to l.level (map open_shown l.fn.going.items)

abbrev pub decreases-loop-alloc : goal.decreases-loop-alloc
decreases-loop-alloc l = l.level - length l.going.items
