use Rattle.grpc_sending.specs.StoredSending.{SourceTexts, QueuesEndWithin}
use Rattle.library_tests.proofs.tests.conn_core_tests.receive_all.Given as goal

abbrev pub invariant-loop-piece : goal.invariant-loop-piece
invariant-loop-piece l = (texts : SourceTexts) → QueuesEndWithin texts l.connection.sending.queues
