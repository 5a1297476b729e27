use Rattle.outcomes.proofs.Stages.{wait_short}
use Rattle.outcomes.proofs.sizes.answers_to_wait_are_short.Goals as goal

pub returns : goal.returns
returns c = wait_short
