use Rattle.grpc_sending.proofs.Sources.{same_first}
use Rattle.grpc_sending.proofs.queue.spend_first.Goals as goal

pub returns-in-Some-clause-sources : goal.returns-in-Some-clause-sources
returns-in-Some-clause-sources c = same_first c.args.pieces.now.items c.pop_front.new.self.items c.in-Some.piece c.args.spent.now.items
    c.spend.new.spent.items (search) c.spend.ensures.items
