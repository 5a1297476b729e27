use Rattle.run_reading.proofs.Takings.{family_settled}
use Rattle.run_reading.proofs.laws.runs_are_settled.Goals as goal

pub returns : goal.returns
returns c = family_settled
