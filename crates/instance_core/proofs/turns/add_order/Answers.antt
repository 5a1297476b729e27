use Rattle.std.proofs.Common.{rules}
use Rattle.execution.specs.Taking.{step_shown}
use Rattle.instance_core.proofs.Telling.{order_added}
use Rattle.instance_core.proofs.turns.add_order.Goals as goal

pub returns-in_ok-push : goal.returns-in_ok-push
returns-in_ok-push c = order_added (step_shown c.args.step.now) c.in-Some.order c.args.orders.now.items c.push.new.self.items
    c.in-Some.ensures (search rules)
