use Rattle.std.proofs.Common.{◌≡◌, ◌++◌, length, map}
use Rattle.instance_core.specs.Slots.{state_in}
use Rattle.instance_core.specs.Turns.{orders_meant}
use Rattle.server_core.specs.Runs.{orders_at}
use Rattle.server_core.specs.Shown.{ordered_shown}
use Rattle.server_core.proofs.record.add_orders.Given as goal

abbrev pub invariant-loop-left : goal.invariant-loop-left
invariant-loop-left l =
    map ordered_shown l.ordered.items ++ orders_at l.place (orders_meant (state_in l.pool l.instance.instance).jobs l.left)
    ≡ map ordered_shown l.fn.ordered.items ++ orders_at l.place (orders_meant (state_in l.pool l.instance.instance).jobs l.orders)

abbrev pub decreases-loop-left : goal.decreases-loop-left
decreases-loop-left l = length l.left
