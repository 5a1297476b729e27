use Rattle.std.proofs.Common.{List, ℕ, map, ap, ◌∙◌}
use Rattle.job_queue.specs.declared.queue.Running.{Running}
use Rattle.execution.specs.declared.job.Job.{Job}
use Rattle.execution.specs.InPool.{running_in}
use Rattle.execution.specs.Steps.{timings_out}
use Rattle.execution.specs.Taking.{steps_shown}
use Rattle.execution.proofs.Taken.{tick_fewer}
use Rattle.execution.proofs.steps.tick_steps.Goals as goal

pub add_starts_behind-requires : goal.add_starts_behind-requires
add_starts_behind-requires c = λ p.
    tick_fewer p c.args.moment c.args.executions.now.queue (steps_shown c.in_ok-steps.steps.items) c.requires.jobs
    (c.in_ok-steps.ensures p ∙ ap (λ (rs : List (ℕ × Running Job)). timings_out c.args.moment (map (running_in p) rs))
    c.running.ensures.value)
