use Rattle.server_core.proofs.Limits.{run_within}
use Rattle.server_core.proofs.laws.a_run_keeps_its_limits.Goals as goal

pub returns : goal.returns
returns c = run_within
