use Rattle.tree_messages.proofs.GetTreeAgain.{get_tree_request_again, get_tree_response_again}
use Rattle.tree_messages.proofs.laws.get_tree_is_read_again.Goals as goal

pub returns-clause-request : goal.returns-clause-request
returns-clause-request c = get_tree_request_again

pub returns-clause-response : goal.returns-clause-response
returns-clause-response c = get_tree_response_again
