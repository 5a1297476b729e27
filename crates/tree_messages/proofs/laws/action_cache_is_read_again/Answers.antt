use Rattle.tree_messages.proofs.ActionCacheAgain.{get_action_result_request_again, update_action_result_request_again}
use Rattle.tree_messages.proofs.laws.action_cache_is_read_again.Goals as goal

pub returns-clause-get : goal.returns-clause-get
returns-clause-get c = get_action_result_request_again

pub returns-clause-update : goal.returns-clause-update
returns-clause-update c = update_action_result_request_again
