use Rattle.runner.proofs.Begun.{begun_so_far}
use Rattle.runner.proofs.Whole.{is_part, run_whole}
use Rattle.runner.proofs.laws.a_run_is_whole.Goals as goal

pub returns-clause-part : goal.returns-clause-part
returns-clause-part c = is_part

pub returns-clause-whole : goal.returns-clause-whole
returns-clause-whole c = run_whole

pub returns-clause-begun : goal.returns-clause-begun
returns-clause-begun c = begun_so_far
