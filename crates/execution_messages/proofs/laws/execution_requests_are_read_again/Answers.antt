use Rattle.execution_messages.proofs.RequestsAgain.{execute_request_again, wait_execution_request_again}
use Rattle.execution_messages.proofs.laws.execution_requests_are_read_again.Goals as goal

pub returns-clause-execute : goal.returns-clause-execute
returns-clause-execute c = execute_request_again

pub returns-clause-wait : goal.returns-clause-wait
returns-clause-wait c = wait_execution_request_again
