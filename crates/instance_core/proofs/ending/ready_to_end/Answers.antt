use Rattle.std.specs.Prelude.{None}
use Rattle.instance_core.proofs.Ended.{ordered_so, told_so}
use Rattle.instance_core.proofs.ending.ready_to_end.Goals as goal

pub returns-clause-replies : goal.returns-clause-replies
returns-clause-replies c = λ p. told_so c.make_ready.result p None c.args.calls.now c.in_ok-steps.steps
    (c.make_ready.ensures.replies p) c.make_ready.ensures.steps

pub returns-clause-orders : goal.returns-clause-orders
returns-clause-orders c = ordered_so c.make_ready.result c.in_ok-steps.steps c.make_ready.ensures.orders c.make_ready.ensures.steps
