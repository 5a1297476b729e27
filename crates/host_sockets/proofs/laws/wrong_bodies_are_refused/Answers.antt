use Rattle.host_sockets.proofs.Refused.{altered, elsewhere, exact, half, told}
use Rattle.host_sockets.proofs.laws.wrong_bodies_are_refused.Goals as goal

pub returns-clause-half : goal.returns-clause-half
returns-clause-half c = half

pub returns-clause-altered : goal.returns-clause-altered
returns-clause-altered c = altered

pub returns-clause-told : goal.returns-clause-told
returns-clause-told c = told

pub returns-clause-elsewhere : goal.returns-clause-elsewhere
returns-clause-elsewhere c = elsewhere

pub returns-clause-exact : goal.returns-clause-exact
returns-clause-exact c = exact
