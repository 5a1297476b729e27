use Rattle.numerals.proofs.Groups.{groups_are}
use Rattle.numerals.proofs.laws.writing_is_in_groups.Goals as goal

pub returns : goal.returns
returns c = groups_are
