-- A clause for every look-up of the texts of sources.
use Rattle.std.proofs.Common.{◌≡◌, sym, subst, List, ℕ}
use Rattle.std.specs.Prelude.{Result, Ok, Err, OnOk}
use Rattle.grpc_sending.specs.StoredSending.{SourceTexts, StoredSending, QueuesEndWithin}
use Rattle.grpc_sending.specs.declared.queue.StoredQueue.{StoredQueue}
use Rattle.conn_core.specs.StandsFor.{ConnectionValue}

pub for_each : {T E : Type 0} (P : SourceTexts → Type 0) (r : Result T E) → ((texts : SourceTexts) → OnOk r (P texts)) →
    OnOk r ((texts : SourceTexts) → P texts)
for_each P (Ok x) h = h
for_each P (Err e) h = tt

pub for_one : {T E : Type 0} (P : SourceTexts → Type 0) (r : Result T E) → OnOk r ((texts : SourceTexts) → P texts) →
    (texts : SourceTexts) → OnOk r (P texts)
for_one P (Ok x) h texts = h texts
for_one P (Err e) h texts = tt

pub fit_by : (v old : ConnectionValue) (qs : List StoredQueue) → v ≡ old →
    ((texts : SourceTexts) → QueuesEndWithin texts v.sending.queues → QueuesEndWithin texts qs) → (texts : SourceTexts) →
    QueuesEndWithin texts old.sending.queues → QueuesEndWithin texts qs
fit_by v old qs is keeps texts h = keeps texts (subst (λ (x : ConnectionValue). QueuesEndWithin texts x.sending.queues) (sym is) h)

pub fit_same : (v old : ConnectionValue) → v ≡ old → (texts : SourceTexts) → QueuesEndWithin texts old.sending.queues →
    QueuesEndWithin texts v.sending.queues
fit_same v old is texts h = subst (λ (x : ConnectionValue). QueuesEndWithin texts x.sending.queues) (sym is) h

pub fit_rest : (v old : ConnectionValue) (w : StoredSending) (bytes : List ℕ) → v ≡ old → w ≡ record v.sending { pending = bytes } →
    (texts : SourceTexts) → QueuesEndWithin texts old.sending.queues → QueuesEndWithin texts w.queues
fit_rest v old w bytes is rest texts h = subst (λ (x : StoredSending). QueuesEndWithin texts x.queues) (sym rest)
    (fit_same v old is texts h)
