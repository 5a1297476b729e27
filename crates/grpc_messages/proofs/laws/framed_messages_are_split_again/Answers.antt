use Rattle.grpc_messages.proofs.Grammar.{framed_split, part_split}
use Rattle.grpc_messages.proofs.laws.framed_messages_are_split_again.Goals as goal

pub returns-clause-whole : goal.returns-clause-whole
returns-clause-whole c = framed_split

pub returns-clause-part : goal.returns-clause-part
returns-clause-part c = part_split
