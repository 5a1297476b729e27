use Rattle.grpc_sending.proofs.Holding.{held_is_left}
use Rattle.grpc_sending.proofs.laws.sources_are_held_until_their_ranges_are_put.Goals as goal

pub returns : goal.returns
returns c = held_is_left
