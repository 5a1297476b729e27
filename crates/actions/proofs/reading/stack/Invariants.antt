use Rattle.std.proofs.Common.{◌≡◌, ◌++◌, map, reverse, length}
use Rattle.actions.specs.Shown.{nodes_shown}
use Rattle.actions.proofs.reading.stack.Given as goal

abbrev pub invariant-nodes : goal.invariant-nodes
invariant-nodes g l =
    nodes_shown l.todo.items ++ reverse (map (g.N.NodeTaken.at l.level) (map g.N.NodeTaken.shown l.left))
    ≡ nodes_shown l.fn.todo.items ++ reverse (map (g.N.NodeTaken.at l.level) (map g.N.NodeTaken.shown l.nodes))

abbrev pub decreases-nodes : goal.decreases-nodes
decreases-nodes g l = length l.left
