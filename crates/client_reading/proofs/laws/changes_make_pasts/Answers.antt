use Rattle.client_reading.proofs.Pasts.{first_past, next_past}
use Rattle.client_reading.proofs.laws.changes_make_pasts.Goals as goal

pub returns-clause-opening : goal.returns-clause-opening
returns-clause-opening c = first_past

pub returns-clause-change : goal.returns-clause-change
returns-clause-change c = next_past
