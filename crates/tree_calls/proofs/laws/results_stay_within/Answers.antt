use Rattle.tree_calls.proofs.Short.{get_stays_within, update_stays_within}
use Rattle.tree_calls.proofs.laws.results_stay_within.Goals as goal

pub returns-clause-get : goal.returns-clause-get
returns-clause-get c = λ limits own request visible results within. get_stays_within limits own visible results request within

pub returns-clause-update : goal.returns-clause-update
returns-clause-update c = λ limits own request results within. update_stays_within limits own results request within
