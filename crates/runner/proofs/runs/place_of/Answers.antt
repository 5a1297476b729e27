use Rattle.std.proofs.Common.{◌∙◌, arith}
use Rattle.runner.proofs.Lists.{first_and_rest, key_same}
use Rattle.runner.proofs.runs.place_of.Goals as goal

pub returns-then-first-key-2-clause-first : goal.returns-then-first-key-2-clause-first
returns-then-first-key-2-clause-first c = record {
  run = c.first-item.result;
  rest = _;
  there = c.runs.invariant.0 ∙ first_and_rest c.runs.left.now c.first-item.result c.in-len1-up.len_at_least c.first-item.is;
  same_key = key_same _ _ (grind (arith, c.if-first-key.true)) (grind (arith, c.if-first-key-2.true));
}
