use Rattle.grpc_sending.proofs.Wire.{read_is}
use Rattle.grpc_sending.proofs.laws.a_range_is_put_as_field_ten.Goals as goal

pub returns : goal.returns
returns c = read_is
