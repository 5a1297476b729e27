use Rattle.grpc_sending.specs.StoredSending.{SourceTexts, QueuesEndWithin}
use Rattle.library_tests.proofs.tests.conn_core_tests.fill.Given as goal

abbrev pub invariant-loop : goal.invariant-loop
invariant-loop l = (texts : SourceTexts) → QueuesEndWithin texts l.connection.sending.queues
