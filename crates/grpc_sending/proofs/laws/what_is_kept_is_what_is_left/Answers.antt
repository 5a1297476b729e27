use Rattle.grpc_sending.proofs.Holding.{left_stored}
use Rattle.grpc_sending.proofs.laws.what_is_kept_is_what_is_left.Goals as goal

pub returns : goal.returns
returns c = left_stored
