use Rattle.actions.proofs.Paths.{plan_paths}
use Rattle.actions.proofs.laws.paths_follow_from_levels.Goals as goal

pub returns : goal.returns
returns c = plan_paths
