use Rattle.execution_messages.proofs.OperationsAgain.{execute_operation_metadata_again, execute_response_again, operation_again, precondition_failure_again}
use Rattle.execution_messages.proofs.laws.operations_are_read_again.Goals as goal

pub returns-clause-metadata : goal.returns-clause-metadata
returns-clause-metadata c = execute_operation_metadata_again

pub returns-clause-response : goal.returns-clause-response
returns-clause-response c = execute_response_again

pub returns-clause-operation : goal.returns-clause-operation
returns-clause-operation c = operation_again

pub returns-clause-failure : goal.returns-clause-failure
returns-clause-failure c = precondition_failure_again
