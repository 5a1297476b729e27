use Rattle.reapi_messages.proofs.BatchesAgain.{batch_update_blobs_request_again, batch_update_blobs_response_again}
use Rattle.reapi_messages.proofs.laws.batch_update_blobs_is_read_again.Goals as goal

pub returns-clause-request : goal.returns-clause-request
returns-clause-request c = batch_update_blobs_request_again

pub returns-clause-response : goal.returns-clause-response
returns-clause-response c = batch_update_blobs_response_again
