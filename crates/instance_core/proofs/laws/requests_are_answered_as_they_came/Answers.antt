use Rattle.instance_core.proofs.Kept.{answered_as_came, part_kept}
use Rattle.instance_core.proofs.laws.requests_are_answered_as_they_came.Goals as goal

pub returns-clause-opened : goal.returns-clause-opened
returns-clause-opened c = λ name quota slots limits. tt

pub returns-clause-kept : goal.returns-clause-kept
returns-clause-kept c = part_kept

pub returns-clause-answered : goal.returns-clause-answered
returns-clause-answered c = answered_as_came
