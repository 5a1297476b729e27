use Rattle.http2_frames.proofs.WireItemsDivisions.{grows}
use Rattle.grpc_messages.specs.Reading.{message_format}
use Rattle.grpc_messages.proofs.Fronts.{steady}
use Rattle.grpc_messages.proofs.laws.more_bytes_add_messages.Goals as goal

pub returns-clause-messages : goal.returns-clause-messages
returns-clause-messages c = λ limit text more. (grows (message_format limit) (steady limit) text more).more

pub returns-clause-fault : goal.returns-clause-fault
returns-clause-fault c = λ limit text more. (grows (message_format limit) (steady limit) text more).ended
