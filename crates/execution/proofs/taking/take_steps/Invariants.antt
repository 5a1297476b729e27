use Rattle.std.proofs.Common.{◌≡◌, ◌≤◌, ℕ, length}
use Rattle.blob_pool.specs.Slots.{count_at}
use Rattle.blob_pool.specs.Moves.{Moves}
use Rattle.execution.specs.InPool.{jobs_holders, jobs_in}
use Rattle.execution.specs.Steps.{jobs_after_steps}
use Rattle.execution.specs.Taking.{CanTake, steps_shown}
use Rattle.execution.proofs.taking.take_steps.Given as goal

-- what is left can be taken, and leads from these jobs to where all steps lead
abbrev pub invariant-loop-first : goal.invariant-loop-first
invariant-loop-first l = record {
  can : CanTake (steps_shown l.left.items) (jobs_in l.pool l.queue);
  leads : jobs_after_steps (steps_shown l.left.items) (jobs_in l.pool l.queue)
      ≡ jobs_after_steps (steps_shown l.fn.steps.items) (jobs_in l.fn.pool l.fn.queue);
  held : (k : ℕ) → jobs_holders l.queue k ≤ count_at l.pool k;
  moves : Moves l.fn.pool l.pool (jobs_holders l.fn.queue) (jobs_holders l.queue);
}

abbrev pub decreases-loop-first : goal.decreases-loop-first
decreases-loop-first l = length l.left.items
