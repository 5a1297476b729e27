use Rattle.grpc_messages.proofs.Grammar.{split_found, split_only}
use Rattle.grpc_messages.proofs.laws.a_text_divides_in_one_way.Goals as goal

pub returns-clause-found : goal.returns-clause-found
returns-clause-found c = split_found

pub returns-clause-only : goal.returns-clause-only
returns-clause-only c = split_only
