use Rattle.server_core.proofs.Marks.{alone_without}
use Rattle.server_core.proofs.laws.without_refusals_of_memory_it_is_alone.Goals as goal

pub returns : goal.returns
returns c = alone_without
