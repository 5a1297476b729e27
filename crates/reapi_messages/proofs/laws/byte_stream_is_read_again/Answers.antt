use Rattle.reapi_messages.proofs.ByteStreamAgain.{read_request_again, read_response_again, write_request_again, write_response_again, query_write_status_request_again, query_write_status_response_again}
use Rattle.reapi_messages.proofs.laws.byte_stream_is_read_again.Goals as goal

pub returns-clause-read_request : goal.returns-clause-read_request
returns-clause-read_request c = read_request_again

pub returns-clause-read_response : goal.returns-clause-read_response
returns-clause-read_response c = read_response_again

pub returns-clause-write_request : goal.returns-clause-write_request
returns-clause-write_request c = write_request_again

pub returns-clause-write_response : goal.returns-clause-write_response
returns-clause-write_response c = write_response_again

pub returns-clause-query_write_status_request : goal.returns-clause-query_write_status_request
returns-clause-query_write_status_request c = query_write_status_request_again

pub returns-clause-query_write_status_response : goal.returns-clause-query_write_status_response
returns-clause-query_write_status_response c = query_write_status_response_again
