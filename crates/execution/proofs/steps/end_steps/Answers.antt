use Rattle.execution_messages.specs.Shown.{end_shown}
use Rattle.execution.specs.Taking.{steps_shown}
use Rattle.execution.proofs.Taken.{end_fewer}
use Rattle.execution.proofs.steps.end_steps.Goals as goal

pub add_starts_behind-requires : goal.add_starts_behind-requires
add_starts_behind-requires c = λ p.
    end_fewer p c.args.number (end_shown c.args.end) c.args.executions.now.queue (steps_shown c.in_ok-steps.steps.items) c.requires.jobs
    (c.in_ok-steps.ensures p)
