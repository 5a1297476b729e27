use Rattle.grpc_calls.proofs.Heads.{one_method}
use Rattle.grpc_calls.proofs.laws.a_path_names_one_method.Goals as goal

pub returns : goal.returns
returns c = one_method
