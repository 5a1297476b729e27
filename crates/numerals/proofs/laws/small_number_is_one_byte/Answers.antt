use Rattle.numerals.proofs.Groups.{groups_small}
use Rattle.numerals.proofs.laws.small_number_is_one_byte.Goals as goal

pub returns : goal.returns
returns c = groups_small
