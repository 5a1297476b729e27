use Rattle.outcomes.proofs.Results.{result_short}
use Rattle.outcomes.proofs.sizes.results_of_runs_are_short.Goals as goal

pub returns : goal.returns
returns c = result_short
