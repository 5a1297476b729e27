use Rattle.std.proofs.Common.{map}
use Rattle.execution.specs.InPool.{running_in}
use Rattle.execution.specs.Steps.{due_of, timings_out}
use Rattle.execution.specs.Taking.{steps_shown}
use Rattle.execution.proofs.Taken.{due_step}
use Rattle.execution.proofs.steps.steps_due.Goals as goal

pub loop-left-preserved : goal.loop-left-preserved
loop-left-preserved c = λ p.
    due_step (due_of c.args.moment) (running_in p) c.loop-left.left.now c.first-item.result (steps_shown c.loop-left.steps.items)
    (steps_shown c.add_due.new.steps.items) (timings_out c.args.moment (map (running_in p) c.args.running.now))
    c.in-len1-up.len_at_least c.first-item.is (c.loop-left.invariant p) (c.in_ok-add_due.ensures p)
