use Rattle.std.proofs.Math.Logic.{∥∥₁_map}
use Rattle.job_runs.proofs.Carrying.{ran_so}
use Rattle.job_runs.proofs.Serving.{was_of_jobs}
use Rattle.logs.proofs.laws.what_ran_was_ordered.Goals as goal

pub returns : goal.returns
returns g c = λ configs s h cut f p served clock is fs ps. ∥∥₁_map (c.args.runs.now.carried h is)
    (λ carried. ran_so _ _ _ _ h f p carried fs ps (was_of_jobs configs s h cut served clock))
