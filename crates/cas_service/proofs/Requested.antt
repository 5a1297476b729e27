-- What is read of a request's text is what the request as a whole means.
use Rattle.std.proofs.Common.{◌≡◌, ℕ, ℤ, List, Option, Result, Ok, Err, refl, ◌∙◌}
use Rattle.protobuf_wire.specs.Reading.{records_of}
use Rattle.protobuf_wire.specs.declared.field.WireError.{WireError}
use Rattle.reapi_messages.specs.MessageError.{MessageError}
use Rattle.reapi_messages.specs.Results.{◌>>=◌}
use Rattle.reapi_messages.specs.Record.{Record}
use Rattle.reapi_messages.specs.Answers.{of_wire}
use Rattle.reapi_messages.specs.Fields.{int32, records_in, repeated_values, string, value_of_text}
use Rattle.reapi_messages.specs.Digests.{DigestValue, digest_of}
use Rattle.reapi_messages.specs.FindMissing.{FindMissingBlobsRequestValue, find_missing_blobs_request_of}
use Rattle.reapi_messages.specs.Batches.{BatchReadBlobsRequestValue, BatchUpdateBlobsRequestValue, UpdateBlobRequestValue, batch_read_blobs_request_of, batch_update_blobs_request_of, update_blob_request_of}
use Rattle.rpc.specs.declared.refusal.Refusal.{Refusal}
use Rattle.digest.specs.declared.Digest.{Digest}
use Rattle.digest.specs.declared.HashFunction.{HashFunction}
use Rattle.cas_service.specs.Requests.{batch_size_check, digests_sent, function_asked, instance_check, message_or_refusal}
use Rattle.cas_service.specs.FindMissing.{digests_asked}
use Rattle.cas_service.specs.BatchRead.{digests_to_read, stated_size}
use Rattle.cas_service.specs.BatchUpdate.{BlobsSentValue, blobs_sent, sent_size}
use Rattle.cas_service.specs.Shown.{AnsweredValue, answer_in, answer_or_refusal, answer_to}
use Rattle.cas_service.specs.Entries.{HeadValue, SentValue, admitted, asked_in, entries_in, entries_of, head_of, refusal_of, request_in}

-- a request that is made of its name and its entries, and what becomes of it
module _ {R V X : Type 0} (own : List ℕ) (z : ℤ) (make : List ℕ → List V → R) (answer : R → Result X Refusal)
    (entries_answer : Option HashFunction → List V → Result X Refusal)
    (is : (name : List ℕ) (vs : List V) → answer (make name vs)
    ≡ (instance_check own name >>= λ _. function_asked z >>= λ f. entries_answer f vs)) where
  abbrev pub head : List ℕ → HeadValue
  head name = record { instance_name = name; digest_function = z }

  abbrev pub sent : Option HashFunction → List V → SentValue V
  sent f vs = record { function = f; entries = vs }

  pub whole : (name : Result (List ℕ) MessageError) (vs : Result (List V) MessageError)
      → (message_or_refusal (name >>= λ n. vs >>= λ es. Ok (make n es)) >>= answer)
      ≡ ((message_or_refusal (name >>= λ n. Ok (head n)) >>= λ h. message_or_refusal vs >>= λ es. admitted own h >>= λ f. Ok (sent f es))
      >>= λ s. entries_answer s.function s.entries)
  whole (Err e) vs = refl
  whole (Ok n) (Err e) = refl
  whole (Ok n) (Ok es) = is n es ∙ go (instance_check own n) (function_asked z) where
    go : (x : Result Unit Refusal) (y : Result (Option HashFunction) Refusal) →
        (x >>= λ _. y >>= λ f. entries_answer f es) ≡
        (((x >>= λ _. y) >>= λ f. Ok (sent f es)) >>= λ s. entries_answer s.function s.entries)
    go (Ok u) (Ok f) = refl
    go (Ok u) (Err e) = refl
    go (Err e) y = refl

-- a request that is read to its end, and one that is refused before
module _ {V X : Type 0} (value_of : List Record → Result V MessageError) (k : Option HashFunction → List V → Result X Refusal)
    (own message : List ℕ) (field : ℕ) (h : HeadValue) (read : message_or_refusal (value_of_text (head_of field) message) ≡ Ok h) where
  pub taken : (f : Option HashFunction) → admitted own h ≡ Ok f →
      (request_in value_of field own message >>= λ s. k s.function s.entries) ≡ (entries_in value_of message >>= λ vs. k f vs)
  taken f is = rw read (go (entries_in value_of message)) where
    go : (vs : Result (List V) Refusal) → ((vs >>= λ es. admitted own h >>= λ f. Ok (record { function = f; entries = es })) >>=
        λ (s : SentValue V). k s.function s.entries) ≡ (vs >>= λ es. k f es)
    go (Err e) = refl
    go (Ok es) = rw is refl

  pub refused : (refusal : Refusal) → admitted own h ≡ Err refusal →
      (request_in value_of field own message >>= λ s. k s.function s.entries) ≡ Err (refusal_of (entries_in value_of message) refusal)
  refused refusal is = rw read (go (entries_in value_of message)) where
    go : (vs : Result (List V) Refusal) → ((vs >>= λ es. admitted own h >>= λ f. Ok (record { function = f; entries = es })) >>=
        λ (s : SentValue V). k s.function s.entries) ≡ Err (refusal_of vs refusal)
    go (Err e) = refl
    go (Ok es) = rw is refl

-- ---- each request

pub asked_is : (own message : List ℕ) → digests_asked own message ≡ asked_in own 3 message
unfolding digests_asked find_missing_blobs_request_of records_in
asked_is own message = go (records_of message) where
  answer : FindMissingBlobsRequestValue → Result (List Digest) Refusal
  answer r = instance_check own r.instance_name >>= λ _. function_asked r.digest_function >>= λ f. digests_sent f r.blob_digests

  request : Result (List Record) WireError → Result (SentValue DigestValue) Refusal
  request rs = message_or_refusal (of_wire rs >>= head_of 3) >>= λ h. entries_of digest_of rs >>= λ vs. admitted own h >>= λ f. Ok
      (record { function = f; entries = vs })

  go : (rs : Result (List Record) WireError) → (message_or_refusal (of_wire rs >>= find_missing_blobs_request_of) >>= answer)
      ≡ (request rs >>= λ s. digests_sent s.function s.entries)
  go (Err e) = refl
  go (Ok rs) = whole own (int32 3 rs) (λ n vs. record { instance_name = n; blob_digests = vs; digest_function = int32 3 rs }) answer
      digests_sent (λ n vs. refl) (string 1 rs) (repeated_values digest_of 2 rs)

pub to_read_is : (own message : List ℕ) → digests_to_read own message
    ≡ (asked_in own 4 message >>= λ ds. batch_size_check (stated_size ds) >>= λ _. Ok ds)
unfolding digests_to_read batch_read_blobs_request_of records_in
to_read_is own message = go (records_of message) where
  tested : List Digest → Result (List Digest) Refusal
  tested ds = batch_size_check (stated_size ds) >>= λ _. Ok ds

  answer : BatchReadBlobsRequestValue → Result (List Digest) Refusal
  answer r = instance_check own r.instance_name >>= λ _. function_asked r.digest_function >>= λ f. digests_sent f r.digests >>= tested

  both : (x : Result (SentValue DigestValue) Refusal) →
      (x >>= λ s. digests_sent s.function s.entries >>= tested) ≡ ((x >>= λ s. digests_sent s.function s.entries) >>= tested)
  both (Ok s) = refl
  both (Err e) = refl

  request : Result (List Record) WireError → Result (SentValue DigestValue) Refusal
  request rs = message_or_refusal (of_wire rs >>= head_of 4) >>= λ h. entries_of digest_of rs >>= λ vs. admitted own h >>= λ f. Ok
      (record { function = f; entries = vs })

  go : (rs : Result (List Record) WireError) → (message_or_refusal (of_wire rs >>= batch_read_blobs_request_of) >>= answer)
      ≡ ((request rs >>= λ s. digests_sent s.function s.entries) >>= tested)
  go (Err e) = refl
  go (Ok rs) = whole own (int32 4 rs) (λ n vs. record { instance_name = n; digests = vs; digest_function = int32 4 rs }) answer
      (λ f vs. digests_sent f vs >>= tested) (λ n vs. refl) (string 1 rs) (repeated_values digest_of 2 rs) ∙ both (request (Ok rs))

pub answered_is : (own : List ℕ) (quota : ℕ) (message : List ℕ) →
    answer_in own quota message ≡ (request_in update_blob_request_of 5 own message >>= λ s. answer_or_refusal quota s.function s.entries)
unfolding blobs_sent batch_update_blobs_request_of records_in
answered_is own quota message = go (records_of message) where
  sent_answer : BlobsSentValue → Result AnsweredValue Refusal
  sent_answer s = Ok (answer_to s.function quota s.requests)

  sent : BatchUpdateBlobsRequestValue → Result BlobsSentValue Refusal
  sent r = instance_check own r.instance_name >>= λ _. function_asked r.digest_function >>= λ f. batch_size_check
      (sent_size r.requests) >>= λ _. Ok (record { function = f; requests = r.requests })

  request : Result (List Record) WireError → Result (SentValue UpdateBlobRequestValue) Refusal
  request rs = message_or_refusal (of_wire rs >>= head_of 5) >>= λ h. entries_of update_blob_request_of rs >>= λ vs. admitted own h >>= λ f.
      Ok (record { function = f; entries = vs })

  both : (x : Result BatchUpdateBlobsRequestValue Refusal) → ((x >>= sent) >>= sent_answer) ≡ (x >>= λ r. sent r >>= sent_answer)
  both (Ok r) = refl
  both (Err e) = refl

  one : (z : ℤ) (n : List ℕ) (vs : List UpdateBlobRequestValue) →
      (sent (record { instance_name = n; requests = vs; digest_function = z }) >>= sent_answer)
      ≡ (instance_check own n >>= λ _. function_asked z >>= λ f. answer_or_refusal quota f vs)
  one z n vs = go (instance_check own n) (function_asked z) (batch_size_check (sent_size vs)) where
    go : (x : Result Unit Refusal) (y : Result (Option HashFunction) Refusal) (w : Result Unit Refusal) →
        ((x >>= λ _. y >>= λ f. w >>= λ _. Ok (record { function = f; requests = vs })) >>= sent_answer)
        ≡ (x >>= λ _. y >>= λ f. w >>= λ _. Ok (answer_to f quota vs))
    go (Err e) y w = refl
    go (Ok u) (Err e) w = refl
    go (Ok u) (Ok f) (Err e) = refl
    go (Ok u) (Ok f) (Ok v) = refl

  go : (rs : Result (List Record) WireError) → ((message_or_refusal (of_wire rs >>= batch_update_blobs_request_of) >>= sent) >>=
      sent_answer) ≡ (request rs >>= λ s. answer_or_refusal quota s.function s.entries)
  go (Err e) = refl
  go (Ok rs) =
      both (message_or_refusal (batch_update_blobs_request_of rs))
      ∙ whole own (int32 5 rs) (λ n vs. record { instance_name = n; requests = vs; digest_function = int32 5 rs })
      (λ r. sent r >>= sent_answer) (answer_or_refusal quota) (one (int32 5 rs)) (string 1 rs)
      (repeated_values update_blob_request_of 2 rs)
