use Rattle.numerals.proofs.Groups.{groups_few}
use Rattle.numerals.proofs.laws.groups_are_few.Goals as goal

pub returns : goal.returns
returns c = groups_few
