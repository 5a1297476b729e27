use Rattle.std.proofs.Common.{arith}
use Rattle.grpc_sending.specs.Pieces.{most_read}
use Rattle.client_reading.proofs.Ranges.{brings}
use Rattle.client_reading.proofs.laws.ranges_bring_their_bytes.Goals as goal

pub returns : goal.returns
returns c = λ bytes. brings most_read bytes (omega arith)
