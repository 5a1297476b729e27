use Rattle.grpc_sending.specs.StoredSending.{SourceTexts, QueuesEndWithin}
use Rattle.library_tests.proofs.tests.conn_core_tests.note_frames.Given as goal

abbrev pub invariant-frames : goal.invariant-frames
invariant-frames l = (texts : SourceTexts) → QueuesEndWithin texts l.connection.sending.queues
