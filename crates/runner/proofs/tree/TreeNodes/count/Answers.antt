use Rattle.std.proofs.Common.{[], length, ap, arith}
use Rattle.runner.proofs.Walks.{above_short}
use Rattle.runner.proofs.tree.TreeNodes.count.Goals as goal

pub returns-clause-above : goal.returns-clause-above
returns-clause-above c =
    let names = ap length c.self.invariant in
    let few = above_short [] c.self.inside.nodes.items in
    rw (← c.self.view_is) (grind (arith, names, few, c.len.ensures, c.self.inside.nodes.ok))
