use Rattle.std.proofs.Common.{◌≡◌, ◌≤◌, ◌-◌, ◌++◌, drop, map}
use Rattle.blob_pool.specs.Slots.{Slots}
use Rattle.execution.specs.InPool.{waiting_in}
use Rattle.execution.specs.Steps.{starts_of}
use Rattle.execution.specs.Taking.{steps_shown}
use Rattle.execution.proofs.steps.add_starts.Given as goal

abbrev pub invariant-loop-place : goal.invariant-loop-place
invariant-loop-place l = record {
  steps : (p : Slots) → steps_shown l.steps.items
      ++ starts_of (l.most - l.place) l.moment (map (waiting_in p) (drop l.place l.queue.waiting)) ≡ steps_shown l.fn.steps.items
      ++ starts_of l.most l.moment (map (waiting_in p) l.queue.waiting);
  few : l.place ≤ l.most;
}

abbrev pub decreases-loop-place : goal.decreases-loop-place
decreases-loop-place l = l.most - l.place
