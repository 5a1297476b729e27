use Rattle.std.proofs.Math.Logic.{∥∥₁_map}
use Rattle.job_runs.proofs.Carrying.{ran_so}
use Rattle.logs.proofs.laws.what_ran.Goals as goal

pub returns : goal.returns
returns g c = λ h f p is fs ps jobs. ∥∥₁_map (c.args.runs.now.carried h is) (λ carried. ran_so _ _ _ _ h f p carried fs ps jobs)
