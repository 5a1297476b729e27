use Rattle.grpc_calls.proofs.Blocks.{never_ok}
use Rattle.grpc_calls.proofs.laws.a_refusal_is_never_ok.Goals as goal

pub returns : goal.returns
returns c = never_ok
