use Rattle.outcomes.proofs.Steps.{tick_told, end_told, start_told}
use Rattle.outcomes.proofs.sizes.steps_are_told_shortly.Goals as goal

pub returns-clause-tick : goal.returns-clause-tick
returns-clause-tick c = tick_told

pub returns-clause-end : goal.returns-clause-end
returns-clause-end c = end_told

pub returns-clause-start : goal.returns-clause-start
returns-clause-start c = start_told
