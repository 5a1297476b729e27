use Rattle.client_reading.proofs.Answerable.{calls_answerable, requests_answerable}
use Rattle.client_reading.proofs.laws.answers_are_owed.Goals as goal

pub returns-clause-calls : goal.returns-clause-calls
returns-clause-calls c = calls_answerable

pub returns-clause-requests : goal.returns-clause-requests
returns-clause-requests c = requests_answerable
