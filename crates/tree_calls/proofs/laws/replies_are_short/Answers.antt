use Rattle.tree_calls.proofs.Short.{get_action_result_short, get_tree_short, update_action_result_short}
use Rattle.tree_calls.proofs.laws.replies_are_short.Goals as goal

pub returns-clause-tree : goal.returns-clause-tree
returns-clause-tree c = λ own request visible messages h. get_tree_short own visible request messages h

pub returns-clause-get : goal.returns-clause-get
returns-clause-get c = λ limits own request reply visible results good within h. get_action_result_short limits own visible results request
    reply good within h

pub returns-clause-update : goal.returns-clause-update
returns-clause-update c = λ own request reply most h. update_action_result_short own request reply most h
