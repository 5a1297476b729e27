use Rattle.tree_messages.proofs.ResultsAgain.{action_result_again}
use Rattle.tree_messages.proofs.laws.action_results_are_read_again.Goals as goal

pub returns : goal.returns
returns c = action_result_again
