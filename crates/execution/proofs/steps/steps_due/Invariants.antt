use Rattle.std.proofs.Common.{◌≡◌, ◌++◌, length, map}
use Rattle.blob_pool.specs.Slots.{Slots}
use Rattle.execution.specs.InPool.{running_in}
use Rattle.execution.specs.Steps.{timings_out}
use Rattle.execution.specs.Taking.{steps_shown}
use Rattle.execution.proofs.steps.steps_due.Given as goal

abbrev pub invariant-loop-left : goal.invariant-loop-left
invariant-loop-left l = (p : Slots) → steps_shown l.steps.items ++ timings_out l.moment (map (running_in p) l.left)
    ≡ timings_out l.moment (map (running_in p) l.running)

abbrev pub decreases-loop-left : goal.decreases-loop-left
decreases-loop-left l = length l.left
