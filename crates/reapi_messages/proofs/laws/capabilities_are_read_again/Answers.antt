use Rattle.reapi_messages.proofs.CapabilitiesAgain.{get_capabilities_request_again, server_capabilities_again}
use Rattle.reapi_messages.proofs.laws.capabilities_are_read_again.Goals as goal

pub returns-clause-request : goal.returns-clause-request
returns-clause-request c = get_capabilities_request_again

pub returns-clause-response : goal.returns-clause-response
returns-clause-response c = server_capabilities_again
