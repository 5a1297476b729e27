use Rattle.tree_calls.proofs.Named.{result_complete}
use Rattle.tree_calls.proofs.laws.results_given_are_complete.Goals as goal

pub returns : goal.returns
returns c = λ own request reply visible results h. result_complete own visible results request reply h
