use Rattle.made_trees.specs.Trees.{key_of}
use Rattle.made_trees.proofs.Others.{all_claimed}
use Rattle.made_trees.proofs.claims.settle_one.Goals as goal

pub returns : goal.returns
returns c = record {
  stays = all_claimed c.args.run (key_of c.args.run c.key-key.result.now.digest) _
      c.in_ok-claim.field-0 c.args.store.now c.claim.new.self c.in_ok-claim.ensures.claimed;
}
