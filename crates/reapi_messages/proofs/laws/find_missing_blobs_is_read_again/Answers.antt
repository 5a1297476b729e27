use Rattle.reapi_messages.proofs.FindMissingAgain.{find_missing_blobs_request_again, find_missing_blobs_response_again}
use Rattle.reapi_messages.proofs.laws.find_missing_blobs_is_read_again.Goals as goal

pub returns-clause-request : goal.returns-clause-request
returns-clause-request c = find_missing_blobs_request_again

pub returns-clause-response : goal.returns-clause-response
returns-clause-response c = find_missing_blobs_response_again
