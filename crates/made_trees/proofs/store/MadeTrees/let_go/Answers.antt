use Rattle.made_trees.proofs.Keeping.{let_go_sizes, let_go_rising, same_within}
use Rattle.made_trees.proofs.store.MadeTrees.let_go.Goals as goal

pub invariant_of-self : goal.invariant_of-self
invariant_of-self c = (
  same_within c.self.inside.most_bytes c.self.inside.trees.entries c.let_go_in.new.trees.entries
      (λ i. let_go_sizes c.args.key.now.instance i c.self.inside.trees.entries c.let_go_in.new.trees.entries
      c.let_go_in.ensures) c.self.invariant.0,
  let_go_rising c.args.key.now.instance 0 c.self.inside.next c.self.inside.trees.entries
      c.let_go_in.new.trees.entries c.let_go_in.ensures c.self.invariant.1,
)

pub invariant_of-self-2 : goal.invariant_of-self-2
invariant_of-self-2 c = (
  same_within c.self.inside.most_bytes c.self.inside.trees.entries c.let_go_in.new.trees.entries
      (λ i. let_go_sizes c.args.key.now.instance i c.self.inside.trees.entries c.let_go_in.new.trees.entries
      c.let_go_in.ensures) c.self.invariant.0,
  let_go_rising c.args.key.now.instance 0 c.self.inside.next c.self.inside.trees.entries
      c.let_go_in.new.trees.entries c.let_go_in.ensures c.self.invariant.1,
)
