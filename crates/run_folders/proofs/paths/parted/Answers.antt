use Rattle.run_folders.proofs.Parting.{in_one, in_two}
use Rattle.run_folders.proofs.paths.parted.Goals as goal

pub returns-in-Some : goal.returns-in-Some
returns-in-Some c = in_two c.args.path.now c.in-Some.parts.0.now c.in-Some.parts.1.now
    c.in-Some.ensures.cases

pub returns-in-None : goal.returns-in-None
returns-in-None c = in_one c.args.path.now c.in-None.ensures.cases
