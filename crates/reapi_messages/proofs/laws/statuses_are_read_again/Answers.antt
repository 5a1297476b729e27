use Rattle.reapi_messages.proofs.StatusesAgain.{any_again, status_again}
use Rattle.reapi_messages.proofs.laws.statuses_are_read_again.Goals as goal

pub returns-clause-any : goal.returns-clause-any
returns-clause-any c = any_again

pub returns-clause-status : goal.returns-clause-status
returns-clause-status c = status_again
