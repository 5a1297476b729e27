use Rattle.numerals.proofs.Groups.{one_number}
use Rattle.numerals.proofs.laws.groups_have_one_number.Goals as goal

pub returns : goal.returns
returns c = one_number
