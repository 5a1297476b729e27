use Rattle.tree_calls.proofs.Whole.{whole_from}
use Rattle.tree_calls.proofs.laws.tree_lists_are_whole.Goals as goal

pub returns-clause-whole : goal.returns-clause-whole
returns-clause-whole c = λ look root listed h. (whole_from 10000 look root listed h).0

pub returns-clause-few : goal.returns-clause-few
returns-clause-few c = λ look root listed h. (whole_from 10000 look root listed h).1
