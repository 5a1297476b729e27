use Rattle.std.proofs.Common.{◌≡◌, ◌++◌, length, map}
use Rattle.server_core.specs.Shown.{ordered_shown}
use Rattle.tool_programs.specs.Printed.{order_lines}
use Rattle.tool_programs.proofs.lines.write_all_orders.Given as goal

abbrev pub invariant-orders : goal.invariant-orders
invariant-orders l = l.text.items ++ order_lines l.instance (map ordered_shown l.left) ≡ l.fn.text.items
    ++ order_lines l.instance (map ordered_shown l.orders)

abbrev pub decreases-orders : goal.decreases-orders
decreases-orders l = length l.left
