-- What is to be put fits the texts of sources as before where it is the same.
use Rattle.std.proofs.Common.{◌≡◌, List, sym, subst}
use Rattle.grpc_sending.specs.declared.queue.StoredQueue.{StoredQueue}
use Rattle.grpc_sending.specs.StoredSending.{SourceTexts, QueuesEndWithin}

pub fit_same : (texts : SourceTexts) (qs rs : List StoredQueue) → rs ≡ qs → QueuesEndWithin texts qs → QueuesEndWithin texts rs
fit_same texts qs rs is h = subst (QueuesEndWithin texts) (sym is) h
