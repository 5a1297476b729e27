use Rattle.grpc_calls.proofs.Blocks.{read_first, read_later}
use Rattle.grpc_calls.proofs.laws.response_blocks_are_read_back.Goals as goal

pub returns-clause-first : goal.returns-clause-first
returns-clause-first c = read_first

pub returns-clause-later : goal.returns-clause-later
returns-clause-later c = read_later
