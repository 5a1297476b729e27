use Rattle.outcomes.proofs.Kept.{nothing_told, execute_keeps, steps_keep}
use Rattle.outcomes.proofs.sizes.jobs_stay_told.Goals as goal

pub returns-clause-opening : goal.returns-clause-opening
returns-clause-opening c = nothing_told

pub returns-clause-execute : goal.returns-clause-execute
returns-clause-execute c = execute_keeps

pub returns-clause-steps : goal.returns-clause-steps
returns-clause-steps c = steps_keep
