use Rattle.run_reading.proofs.Runs.{state_is}
use Rattle.run_reading.proofs.laws.replies_are_the_instances.Goals as goal

pub returns : goal.returns
returns c = state_is
