use Rattle.input_tree.proofs.LastUses.{covered_uses_do, last_uses_do}
use Rattle.input_tree.proofs.laws.only_the_last_use_counts.Goals as goal

pub returns-clause-last : goal.returns-clause-last
returns-clause-last c = last_uses_do

pub returns-clause-covered : goal.returns-clause-covered
returns-clause-covered c = covered_uses_do
