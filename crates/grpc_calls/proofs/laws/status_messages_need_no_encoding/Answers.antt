use Rattle.grpc_calls.proofs.Blocks.{text_is_plain}
use Rattle.grpc_calls.proofs.laws.status_messages_need_no_encoding.Goals as goal

pub returns : goal.returns
returns c = text_is_plain
