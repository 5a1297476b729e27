use Rattle.grpc_sending.specs.StoredSending.{SourceTexts, QueuesEndWithin}
use Rattle.library_tests.proofs.tests.conn_core_tests.note_events.Given as goal

abbrev pub invariant-events : goal.invariant-events
invariant-events l = (texts : SourceTexts) → QueuesEndWithin texts l.connection.sending.queues
