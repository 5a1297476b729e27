use Rattle.server_core.proofs.Families.{alone_is}
use Rattle.server_core.proofs.laws.without_a_parent_it_is_by_itself.Goals as goal

pub returns : goal.returns
returns c = alone_is
