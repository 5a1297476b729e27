use Rattle.outcomes.proofs.Executing.{missing_few, execute_short}
use Rattle.outcomes.proofs.sizes.answers_to_execute_are_short.Goals as goal

pub returns-clause-missing : goal.returns-clause-missing
returns-clause-missing c = missing_few

pub returns-clause-short : goal.returns-clause-short
returns-clause-short c = execute_short
