use Rattle.outcomes.proofs.Written.{found_short, given_short, failed_short, missing_short}
use Rattle.outcomes.proofs.sizes.completed_operations_are_short.Goals as goal

pub returns-clause-found : goal.returns-clause-found
returns-clause-found c = found_short

pub returns-clause-given : goal.returns-clause-given
returns-clause-given c = given_short

pub returns-clause-failed : goal.returns-clause-failed
returns-clause-failed c = failed_short

pub returns-clause-missing : goal.returns-clause-missing
returns-clause-missing c = missing_short
