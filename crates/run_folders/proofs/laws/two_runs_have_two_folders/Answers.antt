use Rattle.run_folders.proofs.RunNames.{two_runs}
use Rattle.run_folders.proofs.laws.two_runs_have_two_folders.Goals as goal

pub returns : goal.returns
returns c = two_runs
