use Rattle.tree_calls.proofs.Given.{result_given}
use Rattle.tree_calls.proofs.laws.complete_results_are_given.Goals as goal

pub returns : goal.returns
returns c = λ own request reply visible results h. result_given own request reply visible results h
