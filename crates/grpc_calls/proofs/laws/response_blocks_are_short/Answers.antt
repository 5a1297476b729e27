use Rattle.grpc_calls.proofs.Blocks.{short}
use Rattle.grpc_calls.proofs.laws.response_blocks_are_short.Goals as goal

pub returns : goal.returns
returns c = short
