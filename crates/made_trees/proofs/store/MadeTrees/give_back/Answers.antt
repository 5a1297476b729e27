use Rattle.made_trees.specs.Trees.{TreeValue, given_back_state}
use Rattle.made_trees.proofs.Keeping.{changed_sizes, changed_rising, same_within}
use Rattle.made_trees.proofs.store.MadeTrees.give_back.Goals as goal

pub invariant_of-self : goal.invariant_of-self
invariant_of-self c =
    let state = λ (t : TreeValue). given_back_state c.args.run t.state in
    rw c.give_back_in-left.ensures (
      same_within c.self.inside.most_bytes c.self.inside.trees.entries _
          (λ i. changed_sizes state i c.args.key.now c.self.inside.trees.entries) c.self.invariant.0,
      changed_rising state 0 c.self.inside.next c.args.key.now c.self.inside.trees.entries c.self.invariant.1,
    )
