use Rattle.std.proofs.Common.{refl}
use Rattle.run_reading.proofs.Runs.{replies_read}
use Rattle.run_reading.proofs.laws.replies_are_read.Goals as goal

pub returns-clause-sent : goal.returns-clause-sent
returns-clause-sent c = λ config events. refl

pub returns-clause-read : goal.returns-clause-read
returns-clause-read c = replies_read
