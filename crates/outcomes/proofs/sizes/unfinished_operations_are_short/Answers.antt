use Rattle.outcomes.proofs.Written.{queued_short, executing_short}
use Rattle.outcomes.proofs.sizes.unfinished_operations_are_short.Goals as goal

pub returns-clause-queued : goal.returns-clause-queued
returns-clause-queued c = queued_short

pub returns-clause-executing : goal.returns-clause-executing
returns-clause-executing c = executing_short
