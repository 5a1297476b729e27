use Rattle.server_core.proofs.Families.{parent_is}
use Rattle.server_core.proofs.laws.a_parent_is_by_itself.Goals as goal

pub returns : goal.returns
returns c = parent_is
