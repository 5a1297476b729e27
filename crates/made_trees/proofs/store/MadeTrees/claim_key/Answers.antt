use Rattle.made_trees.proofs.Keeping.{found_sizes, found_rising, same_within}
use Rattle.made_trees.proofs.store.MadeTrees.claim_key.Goals as goal

pub invariant_of-self-in-Some : goal.invariant_of-self-in-Some
invariant_of-self-in-Some c =
    let found = rw c.in-Some.is at c.in_ok-claim.ensures.some in (
      same_within c.self.inside.most_bytes c.self.inside.trees.entries c.claim_in.new.trees.entries
          (λ i. found_sizes c.args.run c.args.key c.self.inside.trees.entries c.claim_in.new.trees.entries i
          c.in-Some.claim found) c.self.invariant.0,
      found_rising c.args.run c.args.key c.self.inside.trees.entries c.claim_in.new.trees.entries 0
          c.self.inside.next c.in-Some.claim found c.self.invariant.1,
    )
