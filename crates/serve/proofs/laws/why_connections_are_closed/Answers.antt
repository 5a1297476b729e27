use Rattle.serve.proofs.Closed.{was_closed}
use Rattle.serve.proofs.laws.why_connections_are_closed.Goals as goal

pub returns : goal.returns
returns c = was_closed
