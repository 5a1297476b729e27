use Rattle.grpc_sending.specs.StoredSending.{sending_in}
use Rattle.grpc_sending.proofs.Received.{frame_heard, fault_heard}
use Rattle.grpc_sending.proofs.laws.received_bytes_put_nothing.Goals as goal

pub returns-clause-frame : goal.returns-clause-frame
returns-clause-frame c = λ w f texts d os. frame_heard (sending_in texts w) d os f

pub returns-clause-fault : goal.returns-clause-fault
returns-clause-fault c = λ w e texts d os. fault_heard (sending_in texts w) d os e
