use Rattle.std.proofs.Common.{sym}
use Rattle.made_trees.proofs.Keeping.{let_go_refl, let_go_set}
use Rattle.made_trees.proofs.table.let_go_in.Goals as goal

pub returns-in_err-tree : goal.returns-in_err-tree
returns-in_err-tree c = rw c.get_mut.follows.holds-at-none (let_go_refl c.args.key.now.instance c.args.trees.now.entries)

pub returns-then-let_go : goal.returns-then-let_go
returns-then-let_go c = rw (c.get_mut.follows.holds c.let_go.new.self).0
    (let_go_set c.args.key.now c.args.trees.now.entries c.in_ok-tree.tree.now c.let_go.new.self
    (sym c.in_ok-tree.ensures.value) c.let_go.ensures)

pub returns-else-let_go : goal.returns-else-let_go
returns-else-let_go c = rw (c.get_mut.follows.holds c.let_go.new.self).0
    (let_go_set c.args.key.now c.args.trees.now.entries c.in_ok-tree.tree.now c.let_go.new.self
    (sym c.in_ok-tree.ensures.value) c.let_go.ensures)
