use Rattle.made_trees.proofs.Staying.{stays_when_claimed, stays_when_finished, stays_when_given_back, stays_when_removed}
use Rattle.made_trees.proofs.laws.a_tree_in_use_stays.Goals as goal

pub returns-clause-claimed : goal.returns-clause-claimed
returns-clause-claimed c = λ run other mine key size folder claim old new.
    stays_when_claimed run mine folder other key size claim old new

pub returns-clause-finished : goal.returns-clause-finished
returns-clause-finished c = λ run other mine key folder trees. stays_when_finished run mine folder other key trees

pub returns-clause-given_back : goal.returns-clause-given_back
returns-clause-given_back c = λ run other mine key folder trees.
    stays_when_given_back run mine folder other key trees

pub returns-clause-removed : goal.returns-clause-removed
returns-clause-removed c = λ run mine key folder trees. stays_when_removed run mine folder key trees
