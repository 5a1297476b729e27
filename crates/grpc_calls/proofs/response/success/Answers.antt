use Rattle.std.proofs.Common.{refl}
use Rattle.std.specs.Fmt.{digits}
use Rattle.grpc_calls.proofs.response.success.Goals as goal

pub returns : goal.returns
unfolding digits
returns c = refl
