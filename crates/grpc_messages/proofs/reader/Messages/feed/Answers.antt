use Rattle.grpc_messages.proofs.Steps.{stands_on_ok}
use Rattle.grpc_messages.proofs.reader.Messages.feed.Goals as goal

pub returns-clause-stands : goal.returns-clause-stands
returns-clause-stands c = stands_on_ok _ c.append.result c.args.self.now c.args.piece.now c.append.new.self c.append.ensures.ok
