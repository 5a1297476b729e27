-- How long replies are, beside the messages that ask for them.
use Rattle.std.proofs.Common.{◌≡◌, ℕ, ℤ, pos, ◌+◌, ◌*◌, ◌^◌, ◌<◌, ◌≤◌, Bool, true, false, cond, List, [], ◌∷◌, ◌++◌, length, map, Option, Some, None, Result, Ok, Err, refl, sym, ap, subst, arith, leb-true}
use Rattle.std.specs.Prelude.{nat_le, nat_lt}
use Rattle.std.specs.Int.{w64, cast_unsigned}
use Rattle.std.specs.List.{AllByRecursion, filter, concat}
use Rattle.std.proofs.lemmas.List.{length-append}
use Rattle.reapi_messages.specs.Record.{Record}
use Rattle.reapi_messages.specs.Writing.{records_text, varint, packed_text, number_field, bytes_field, message_field}
use Rattle.reapi_messages.proofs.Tools.{bind_ok, ok_is}
use Rattle.reapi_messages.specs.MessageError.{MessageError}
use Rattle.reapi_messages.specs.Fields.{value_of_text, payloads, each_of, string, int64, repeated_values, embedded_value, records_in, joined_value, octets, int32}
use Rattle.reapi_messages.specs.Parts.{text_for, each_field, string_field, int64_field, embedded_field, repeated_field}
use Rattle.reapi_messages.specs.Digests.{DigestValue, digest_of, digest_records}
use Rattle.reapi_messages.specs.Statuses.{StatusValue, status_records}
use Rattle.reapi_messages.specs.Batches.{BatchReadBlobsRequestValue, UpdateBlobRequestValue, read_blob_response_records, batch_read_blobs_request_of, update_blob_request_of, batch_update_blobs_request_of, update_blob_response_records}
use Rattle.rpc.specs.declared.refusal.Refusal.TheVariants.{UnknownMethod, BadDigest, BatchTooLarge, BlobNotFound}
use Rattle.rpc.specs.Status.{code_of, text_of}
use Rattle.cas_service.specs.Statuses.{ok_status, refused_status, status_of_result}
use Rattle.cas_service.specs.BatchUpdate.{BlobsSentValue, blobs_sent, sent_size, storage_digest, update_response, update_reply, batch_update_reply}
use Rattle.reapi_messages.specs.FindMissing.{find_missing_blobs_request_of}
use Rattle.rpc.specs.declared.refusal.Refusal.{Refusal}
use Rattle.digest.specs.declared.Digest.{Digest}
use Rattle.digest.specs.declared.HashFunction.{HashFunction}
use Rattle.digest.specs.Text.{digest_in}
use Rattle.reapi_messages.specs.Capabilities.{sem_ver_records, cache_capabilities_records, execution_capabilities_records}
use Rattle.reapi_messages.proofs.ProtobufWireTexts.{varint_is}
use Rattle.instance_core.specs.Capabilities.{version, cache, execution, capabilities_message, capabilities_asked, get_capabilities_reply}
use Rattle.digest.specs.Naming.{Names, same_digest}
use Rattle.digest.proofs.Same.{same_equal}
use Rattle.digest.proofs.Writings.{is_written}
use Rattle.std.specs.Map.{lookup}
use Rattle.cas_service.specs.BatchRead.{stated_size, digests_to_read, read_response, read_reply, batch_read_reply}
use Rattle.instance_view.specs.Visible.{Blob, visible_text}
use Rattle.cas_service.specs.Requests.{message_or_refusal, instance_check, function_asked, digest_sent, digests_sent, digest_value, form_check, is_hash_asked, batch_size_check}
use Rattle.cas_service.specs.FindMissing.{digests_asked, missing_digests, is_missing, missing_reply, find_missing_reply}
use Rattle.tree_calls.proofs.Sizes.{read_from, weight, sizes, payloads_weight, string_size, int64_narrow, message_written, bytes_written, number_written, both_written}

-- ---- payloads that are written

abbrev pub framed : List (List ℕ) → ℕ
framed [] = 0
framed (t ∷ ts) = 20 + length t + framed ts

pub each_written : (field : ℕ) (ts : List (List ℕ)) → field < 2 ^ 29 → framed ts < 2 ^ 64 →
    length (records_text (each_field field ts)) ≤ framed ts
each_written field [] small fits = omega arith
each_written field (t ∷ ts) small fits =
    let both = both_written (message_field field t) (each_field field ts) in
    let first = message_written field t small (omega arith) in
    let rest = each_written field ts small (omega arith) in
    omega arith

-- ---- digests

abbrev pub FitsSize : DigestValue → Type 0
FitsSize v = cast_unsigned w64 v.size_bytes < 2 ^ 64

-- digests as they are sent, each with two bytes more
abbrev pub digest_sizes : List DigestValue → ℕ
digest_sizes [] = 0
digest_sizes (v ∷ vs) = 2 + length v.hash + digest_sizes vs

pub digest_written : (v : DigestValue) → length v.hash < 2 ^ 40 → FitsSize v → length (text_for digest_records v) ≤ 40 + length v.hash
digest_written v small fits =
    let both = both_written (string_field 1 v.hash) (int64_field 2 v.size_bytes) in
    let hash = bytes_written 1 v.hash (omega arith) (omega arith) in
    let size = number_written 2 (cast_unsigned w64 v.size_bytes) (omega arith) fits in
    omega arith

pub digest_read : (t : List ℕ) (v : DigestValue) → value_of_text digest_of t ≡ Ok v → (length v.hash ≤ length t) × FitsSize v
unfolding digest_of
digest_read t v h =
    let r = read_from digest_of t v h in
    let b = bind_ok (string 1 r.records) _ v r.means in
    let e = ok_is (record { hash = b.0; size_bytes = int64 2 r.records }) v b.2 in
    let hash = string_size 1 r.records b.0 b.1 in
    let light = r.light in
    let fits = int64_narrow 2 r.records r.narrow in
    rw (← e) (omega arith, fits)

-- what holds of nothing read, and of one value more where it is read, holds of all that is read
each_read : {V : Type 0} (read : List ℕ → Result V MessageError) (IsRead : List (List ℕ) → List V → Type 0) → IsRead [] [] →
    ((p : List ℕ) (v : V) (ps : List (List ℕ)) (vs : List V) → read p ≡ Ok v → IsRead ps vs → IsRead (p ∷ ps) (v ∷ vs)) →
    (ps : List (List ℕ)) (vs : List V) → each_of read ps ≡ Ok vs → IsRead ps vs
unfolding each_of
each_read read IsRead none more [] vs h = let e : [] ≡ vs = ok_is [] vs h in subst (λ xs. IsRead [] xs) e none
each_read read IsRead none more (p ∷ ps) vs h =
    let first = bind_ok (read p) _ vs h in
    let rest = bind_ok (each_of read ps) _ vs first.2 in
    let e = ok_is (first.0 ∷ rest.0) vs rest.2 in
    subst (λ xs. IsRead (p ∷ ps) xs) e (more p first.0 ps rest.0 first.1 (each_read read IsRead none more ps rest.0 rest.1))

pub digests_read : (ps : List (List ℕ)) (vs : List DigestValue) → each_of (value_of_text digest_of) ps ≡ Ok vs →
    (digest_sizes vs ≤ sizes ps) × AllByRecursion FitsSize vs
digests_read = each_read (value_of_text digest_of) (λ ps vs. (digest_sizes vs ≤ sizes ps) × AllByRecursion FitsSize vs) (omega arith, tt)
    (λ p v ps vs read ih.
    let one = digest_read p v read in
    let a = ih.0 in
    let b = one.0 in
    (omega arith, (one.1, ih.1)))

well_formed_is : (function : Option HashFunction) (o : Option Digest) (d : Digest) → form_check function o ≡ Ok d → o ≡ Some d
well_formed_is function None d h = absurd (cc)
well_formed_is function (Some e) d h = go (is_hash_asked function e.hash) h where
  go : (b : Bool) → cond b (Ok e) (Err BadDigest) ≡ Ok d → Some e ≡ Some d
  go true h = cc
  go false h = absurd (cc)

abbrev sent_value : List ℕ → ℤ → DigestValue
sent_value hash size = record { hash = hash; size_bytes = size }

-- a digest is written as it was sent
pub as_sent : (function : Option HashFunction) (v : DigestValue) (d : Digest) → digest_sent function v ≡ Ok d → digest_value d ≡ v
as_sent function v d h =
    let some = well_formed_is function (digest_in v.hash v.size_bytes) d h in
    let w = is_written v.hash v.size_bytes (Some d) (sym some) in
    value_is (digest_value d).hash v.hash (pos d.size) v.size_bytes (sym w.hash_is) (sym w.size_is)
  where
    value_is : (a b : List ℕ) (m n : ℤ) → a ≡ b → m ≡ n → sent_value a m ≡ sent_value b n
    value_is a b m n p q = rw (p, q) refl

pub all_as_sent : (function : Option HashFunction) (vs : List DigestValue) (ds : List Digest) → digests_sent function vs ≡ Ok ds →
    map digest_value ds ≡ vs
all_as_sent function [] ds h = let e : [] ≡ ds = ok_is [] ds h in rw (← e) refl
all_as_sent function (v ∷ vs) ds h =
    let first = bind_ok (digest_sent function v) _ ds h in
    let rest = bind_ok (digests_sent function vs) _ ds first.2 in
    let e = ok_is (first.0 ∷ rest.0) ds rest.2 in
    let one = as_sent function v first.0 first.1 in
    let more = all_as_sent function vs rest.0 rest.1 in
    rw (← e, one, more) refl

readable_ok : {V : Type 0} (r : Result V MessageError) (v : V) → message_or_refusal r ≡ Ok v → r ≡ Ok v
readable_ok (Ok x) v h = cc
readable_ok (Err e) v h = absurd (cc)

-- digests that a request asks for are no more than its bytes
abbrev pub AreSent : List ℕ → List Digest → Type 0
AreSent message ds = (digest_sizes (map digest_value ds) ≤ length message) × AllByRecursion FitsSize (map digest_value ds)

pub sent_from : (function : Option HashFunction) (message : List ℕ) (rs : List Record) (field : ℕ) (vs : List DigestValue)
    (ds : List Digest) → weight rs ≤ length message → repeated_values digest_of field rs ≡ Ok vs → digests_sent function vs ≡ Ok ds →
    AreSent message ds
sent_from function message rs field vs ds light h g =
    let read = digests_read (payloads field rs) vs h in
    let a = read.0 in
    let b = payloads_weight field rs in
    rw (all_as_sent function vs ds g) (omega arith, read.1)

pub asked_sent : (own message : List ℕ) (ds : List Digest) → digests_asked own message ≡ Ok ds → AreSent message ds
unfolding digests_asked find_missing_blobs_request_of
asked_sent own message ds h =
    let q = bind_ok (message_or_refusal (value_of_text find_missing_blobs_request_of message)) _ ds h in
    let r = read_from find_missing_blobs_request_of message q.0
    (readable_ok (value_of_text find_missing_blobs_request_of message) q.0 q.1) in
    let name = bind_ok (string 1 r.records) _ q.0 r.means in
    let digests = bind_ok (repeated_values digest_of 2 r.records) _ q.0 name.2 in
    let e = ok_is (record { instance_name = name.0; blob_digests = digests.0; digest_function = int32 3 r.records }) q.0 digests.2 in
    let i = bind_ok (instance_check own q.0.instance_name) _ ds q.2 in
    let f = bind_ok (function_asked q.0.digest_function) _ ds i.2 in
    let same : q.0.blob_digests ≡ digests.0 = cc in
    sent_from f.0 message r.records 2 digests.0 ds r.light digests.1 (rw (← same) f.2)

filter_sizes : (test : Digest → Bool) (ds : List Digest) →
    digest_sizes (map digest_value (filter test ds)) ≤ digest_sizes (map digest_value ds)
filter_sizes test [] = omega arith
filter_sizes test (d ∷ ds) = go (test d) refl (filter_sizes test ds) where
  go : (b : Bool) → test d ≡ b → digest_sizes (map digest_value (filter test ds)) ≤ digest_sizes (map digest_value ds) →
      digest_sizes (map digest_value (filter test (d ∷ ds))) ≤ digest_sizes (map digest_value (d ∷ ds))
  go true is ih = rw is (omega arith)
  go false is ih = rw is (omega arith)

filter_fits : (test : Digest → Bool) (ds : List Digest) → AllByRecursion FitsSize (map digest_value ds) →
    AllByRecursion FitsSize (map digest_value (filter test ds))
filter_fits test [] h = tt
filter_fits test (d ∷ ds) h = go (test d) refl (filter_fits test ds h.1) where
  go : (b : Bool) → test d ≡ b → AllByRecursion FitsSize (map digest_value (filter test ds)) →
      AllByRecursion FitsSize (map digest_value (filter test (d ∷ ds)))
  go true is ih = rw is (h.0, ih)
  go false is ih = rw is ih

pub digests_framed : (vs : List DigestValue) → AllByRecursion FitsSize vs → digest_sizes vs < 2 ^ 40 →
    framed (map (text_for digest_records) vs) ≤ 30 * digest_sizes vs
digests_framed [] h small = omega arith
digests_framed (v ∷ vs) h small =
    let first = digest_written v (omega arith) h.0 in
    let rest = digests_framed vs h.1 (omega arith) in
    omega arith

pub digest_list_written : (vs : List DigestValue) → AllByRecursion FitsSize vs → digest_sizes vs < 2 ^ 40 →
    length (records_text (repeated_field digest_records 2 vs)) ≤ 30 * digest_sizes vs
digest_list_written vs h small =
    let f = digests_framed vs h small in
    let w = each_written 2 (map (text_for digest_records) vs) (omega arith) (omega arith) in
    omega arith

pub find_missing_short : (own : List ℕ) (visible : List Blob) (message reply : List ℕ) → length message ≤ 4194304 →
    find_missing_reply own visible message ≡ Ok reply → length reply < 2 ^ 32
find_missing_short own visible message reply short h =
    let b = bind_ok (digests_asked own message) _ reply h in
    let sent = asked_sent own message b.0 b.1 in
    let e = ok_is (missing_reply (missing_digests visible b.0)) reply b.2 in
    let a = sent.0 in
    let f = filter_sizes (is_missing visible) b.0 in
    let w = digest_list_written (map digest_value (missing_digests visible b.0)) (filter_fits (is_missing visible) b.0 sent.1)
    (omega arith) in
    rw (← e) (omega arith)

-- ---- statuses

code_small : (r : Refusal) → code_of r < 17
code_small UnknownMethod = omega arith
code_small _ = omega arith

text_small : (r : Refusal) → length (text_of r) ≤ 40
text_small UnknownMethod = omega arith
text_small _ = omega arith

plain_status_written : (n : ℕ) (m : List ℕ) → n < 2 ^ 64 → length m ≤ 40 →
    length (text_for status_records (record { code = pos n; message = m; details = [] })) ≤ 80
plain_status_written n m fits small =
    let all = both_written (number_field 1 n ++ string_field 2 m) [] in
    let first = both_written (number_field 1 n) (string_field 2 m) in
    let code = number_written 1 n (omega arith) fits in
    let words = bytes_written 2 m (omega arith) (omega arith) in
    let whole : length (text_for status_records (record { code = pos n; message = m; details = [] }))
    ≡ length (records_text ((number_field 1 n ++ string_field 2 m) ++ [])) = refl in
    omega arith

refused_written : (r : Refusal) → length (text_for status_records (refused_status r)) ≤ 80
refused_written r = let code = code_small r in plain_status_written (code_of r) (text_of r) (omega arith) (text_small r)

ok_written : length (text_for status_records ok_status) ≤ 80
ok_written = plain_status_written 0 [] (omega arith) (omega arith)

verdict_written : {A : Type 0} (r : Result A Refusal) → length (text_for status_records (status_of_result r)) ≤ 80
verdict_written (Ok x) = ok_written
verdict_written (Err refusal) = refused_written refusal

-- ---- BatchUpdateBlobs

hash_size : Option DigestValue → ℕ
hash_size None = 0
hash_size (Some v) = length v.hash

FitsSet : Option DigestValue → Type 0
FitsSet None = Unit {0}
FitsSet (Some v) = FitsSize v

digest_set_written : (o : Option DigestValue) → hash_size o < 2 ^ 40 → FitsSet o →
    length (records_text (embedded_field digest_records 1 o)) ≤ 60 + hash_size o
unfolding hash_size FitsSet
digest_set_written None small fits = omega arith
digest_set_written (Some v) small fits =
    let inside = digest_written v small fits in
    let around = message_written 1 (text_for digest_records v) (omega arith) (omega arith) in
    omega arith

concat_size : (ps : List (List ℕ)) → length (concat ps) ≤ sizes ps
concat_size [] = omega arith
concat_size (p ∷ ps) = let ih = concat_size ps in let e = length-append p (concat ps) in omega arith

whole_read : (ps : List (List ℕ)) (o : Option DigestValue) → joined_value digest_of ps ≡ Ok o → (hash_size o ≤ sizes ps) × FitsSet o
unfolding hash_size FitsSet
whole_read [] o h = let e : None ≡ o = ok_is None o h in rw (← e) (omega arith, tt)
whole_read (p ∷ ps) o h =
    let b = bind_ok (value_of_text digest_of (concat (p ∷ ps))) _ o h in
    let e = ok_is (Some b.0) o b.2 in
    let d = digest_read (concat (p ∷ ps)) b.0 b.1 in
    let a = d.0 in
    let joined = concat_size (p ∷ ps) in
    rw (← e) (omega arith, d.1)

update_request_read : (t : List ℕ) (r : UpdateBlobRequestValue) → value_of_text update_blob_request_of t ≡ Ok r →
    (hash_size r.digest ≤ length t) × FitsSet r.digest
unfolding update_blob_request_of
update_request_read t r h =
    let f = read_from update_blob_request_of t r h in
    let b = bind_ok (embedded_value digest_of 1 f.records) _ r f.means in
    let e = ok_is (record { digest = b.0; content = octets 2 f.records; compressor = int32 3 f.records }) r b.2 in
    let w = bind_ok (each_of records_in (payloads 1 f.records)) _ b.0 b.1 in
    let d = whole_read (payloads 1 f.records) b.0 w.2 in
    let a = d.0 in
    let light = f.light in
    let some = payloads_weight 1 f.records in
    rw (← e) (omega arith, d.1)

update_sizes : List UpdateBlobRequestValue → ℕ
update_sizes [] = 0
update_sizes (r ∷ rs) = 2 + hash_size r.digest + update_sizes rs

FitSets : List UpdateBlobRequestValue → Type 0
FitSets rs = AllByRecursion (λ (r : UpdateBlobRequestValue). FitsSet r.digest) rs

updates_read : (ps : List (List ℕ)) (rs : List UpdateBlobRequestValue) → each_of (value_of_text update_blob_request_of) ps ≡ Ok rs →
    (update_sizes rs ≤ sizes ps) × FitSets rs
unfolding update_sizes FitSets
updates_read = each_read (value_of_text update_blob_request_of) (λ ps rs. (update_sizes rs ≤ sizes ps) × FitSets rs) (omega arith, tt)
    (λ p r ps rs read ih.
    let one = update_request_read p r read in
    let a = ih.0 in
    let b = one.0 in
    (omega arith, (one.1, ih.1)))

update_response_written : (function : Option HashFunction) (quota : ℕ) (r : UpdateBlobRequestValue) → hash_size r.digest < 2 ^ 40 →
    FitsSet r.digest → length (text_for update_blob_response_records (update_response function quota r)) ≤ 160 + hash_size r.digest
update_response_written function quota r small fits =
    let status = text_for status_records (status_of_result (storage_digest function quota r)) in
    let both = both_written (embedded_field digest_records 1 r.digest) (message_field 2 status) in
    let digest = digest_set_written r.digest small fits in
    let said = verdict_written (storage_digest function quota r) in
    let around = message_written 2 status (omega arith) (omega arith) in
    omega arith

updates_framed : (function : Option HashFunction) (quota : ℕ) (rs : List UpdateBlobRequestValue) → FitSets rs → update_sizes rs < 2 ^ 40 →
    framed (map (text_for update_blob_response_records) (map (update_response function quota) rs)) ≤ 90 * update_sizes rs
unfolding update_sizes FitSets
updates_framed function quota [] h small = omega arith
updates_framed function quota (r ∷ rs) h small =
    let first = update_response_written function quota r (omega arith) h.0 in
    let rest = updates_framed function quota rs h.1 (omega arith) in
    omega arith

blobs_size : (own message : List ℕ) (sent : BlobsSentValue) → blobs_sent own message ≡ Ok sent →
    (update_sizes sent.requests ≤ length message) × FitSets sent.requests
unfolding blobs_sent batch_update_blobs_request_of
blobs_size own message sent h =
    let q = bind_ok (message_or_refusal (value_of_text batch_update_blobs_request_of message)) _ sent h in
    let r = read_from batch_update_blobs_request_of message q.0
    (readable_ok (value_of_text batch_update_blobs_request_of message) q.0 q.1) in
    let name = bind_ok (string 1 r.records) _ q.0 r.means in
    let blobs = bind_ok (repeated_values update_blob_request_of 2 r.records) _ q.0 name.2 in
    let e = ok_is (record { instance_name = name.0; requests = blobs.0; digest_function = int32 5 r.records }) q.0 blobs.2 in
    let i = bind_ok (instance_check own q.0.instance_name) _ sent q.2 in
    let f = bind_ok (function_asked q.0.digest_function) _ sent i.2 in
    let b = bind_ok (batch_size_check (sent_size q.0.requests)) _ sent f.2 in
    let last = ok_is (record { function = f.0; requests = q.0.requests }) sent b.2 in
    let same : blobs.0 ≡ sent.requests = cc in
    let read = updates_read (payloads 2 r.records) blobs.0 blobs.1 in
    let a = read.0 in
    let light = r.light in
    let some = payloads_weight 2 r.records in
    rw (← same) (omega arith, read.1)

pub batch_update_short : (own : List ℕ) (quota : ℕ) (message reply : List ℕ) → length message ≤ 4194304 →
    batch_update_reply own quota message ≡ Ok reply → length reply < 2 ^ 32
batch_update_short own quota message reply short h =
    let b = bind_ok (blobs_sent own message) _ reply h in
    let e = ok_is (update_reply b.0.function quota b.0.requests) reply b.2 in
    let sent = blobs_size own message b.0 b.1 in
    let a = sent.0 in
    let f = updates_framed b.0.function quota b.0.requests sent.1 (omega arith) in
    let w = each_written 1 (map (text_for update_blob_response_records) (map (update_response b.0.function quota) b.0.requests))
    (omega arith) (omega arith) in
    rw (← e) (omega arith)

-- ---- BatchReadBlobs

batch_size : (n : ℕ) (u : Unit) → batch_size_check n ≡ Ok u → n ≤ 4000000
batch_size n u h = go (nat_le n 4000000) refl h where
  go : (b : Bool) → nat_le n 4000000 ≡ b → cond b (Ok tt) (Err BatchTooLarge) ≡ Ok u → n ≤ 4000000
  go true is h = leb-true n 4000000 is
  go false is h = absurd (cc)

read_asked : (own message : List ℕ) (ds : List Digest) → digests_to_read own message ≡ Ok ds →
    AreSent message ds × (stated_size ds ≤ 4000000)
unfolding digests_to_read batch_read_blobs_request_of
read_asked own message ds h =
    let q = bind_ok (message_or_refusal (value_of_text batch_read_blobs_request_of message)) _ ds h in
    let r = read_from batch_read_blobs_request_of message q.0 (readable_ok (value_of_text batch_read_blobs_request_of message) q.0 q.1) in
    let name = bind_ok (string 1 r.records) _ q.0 r.means in
    let digests = bind_ok (repeated_values digest_of 2 r.records) _ q.0 name.2 in
    let e = ok_is (record { instance_name = name.0; digests = digests.0; digest_function = int32 4 r.records }) q.0 digests.2 in
    let i = bind_ok (instance_check own q.0.instance_name) _ ds q.2 in
    let f = bind_ok (function_asked q.0.digest_function) _ ds i.2 in
    let g = bind_ok (digests_sent f.0 q.0.digests) _ ds f.2 in
    let b = bind_ok (batch_size_check (stated_size g.0)) _ ds g.2 in
    let last = ok_is g.0 ds b.2 in
    let same : q.0.digests ≡ digests.0 = sym (ap (λ (v : BatchReadBlobsRequestValue). v.digests) e) in
    let most = batch_size (stated_size g.0) b.0 b.1 in
    rw (← last) ((sent_from f.0 message r.records 2 digests.0 g.0 r.light digests.1 (rw (← same) g.1)), most)

some_is : (a b : List ℕ) → Some a ≡ Some b → a ≡ b
some_is a b h = cc

found_size : (d : Digest) (bs : List Blob) (text : List ℕ) → AllByRecursion (λ (b : Blob). Names b.0 b.1) bs →
    lookup (same_digest d) bs ≡ Some text → length text ≤ d.size
found_size d [] text h is = absurd (cc)
found_size d (b ∷ bs) text h is = go (same_digest d b.0) refl is (λ later. found_size d bs text h.1 later) where
  go : (c : Bool) → same_digest d b.0 ≡ c → cond c (Some b.1) (lookup (same_digest d) bs) ≡ Some text →
      (lookup (same_digest d) bs ≡ Some text → length text ≤ d.size) → length text ≤ d.size
  go true one is ih =
      let e : d ≡ b.0 = same_equal d b.0 one in
      let t : b.1 ≡ text = some_is b.1 text is in
      let n : b.0.size ≡ length b.1 = h.0.size in
      rw (e, ← t) (omega (arith, n))
  go false one is ih = ih is

seen_size : (d : Digest) (visible : List Blob) → AllByRecursion (λ (b : Blob). Names b.0 b.1) visible →
    length (read_response d (visible_text d visible)).content ≤ d.size
seen_size d visible h = go (Rattle.digest.specs.Naming.is_empty_digest d) refl where
  at : (o : Option (List ℕ)) → ((text : List ℕ) → o ≡ Some text → length text ≤ d.size) → length (read_response d o).content ≤ d.size
  at None f = omega arith
  at (Some records_text) f = f records_text refl

  go : (c : Bool) → Rattle.digest.specs.Naming.is_empty_digest d ≡ c →
      length (read_response d (cond c (Some []) (lookup (same_digest d) visible))).content ≤ d.size
  go true is = omega arith
  go false is = at (lookup (same_digest d) visible) (λ text found. found_size d visible text h found)

part_written : (v : DigestValue) (content : List ℕ) (status : StatusValue) → length v.hash < 2 ^ 40 → FitsSize v → length content < 2 ^ 40 →
    length (text_for status_records status) ≤ 80
    → length (records_text ((embedded_field digest_records 1 (Some v) ++ bytes_field 2 content)
    ++ embedded_field status_records 3 (Some status))) ≤ 180 + length v.hash + length content
part_written v content status small fits few said =
    let all = both_written (embedded_field digest_records 1 (Some v) ++ bytes_field 2 content)
    (message_field 3 (text_for status_records status)) in
    let front = both_written (message_field 1 (text_for digest_records v)) (bytes_field 2 content) in
    let inside = digest_written v small fits in
    let digest = message_written 1 (text_for digest_records v) (omega arith) (omega arith) in
    let bytes = bytes_written 2 content (omega arith) (omega arith) in
    let around = message_written 3 (text_for status_records status) (omega arith) (omega arith) in
    omega arith

read_response_written : (d : Digest) (o : Option (List ℕ)) → length (digest_value d).hash < 2 ^ 40 → FitsSize (digest_value d) →
    length (read_response d o).content < 2 ^ 40
    → length (text_for read_blob_response_records (read_response d o)) ≤ 180 + length (digest_value d).hash + length
    (read_response d o).content
read_response_written d None small fits few = part_written (digest_value d) [] (refused_status BlobNotFound) small fits few
    (refused_written BlobNotFound)
read_response_written d (Some content) small fits few = part_written (digest_value d) content ok_status small fits few ok_written

reads_framed : (visible : List Blob) (ds : List Digest) → AllByRecursion (λ (b : Blob). Names b.0 b.1) visible →
    AllByRecursion FitsSize (map digest_value ds) → digest_sizes (map digest_value ds) < 2 ^ 32 → stated_size ds < 2 ^ 32
    → framed (map (text_for read_blob_response_records) (map (λ d. read_response d (visible_text d visible)) ds)) ≤ 100 * digest_sizes
    (map digest_value ds) + stated_size ds
reads_framed visible [] h fits small few = omega arith
reads_framed visible (d ∷ ds) h fits small few =
    let size = seen_size d visible h in
    let first = read_response_written d (visible_text d visible) (omega arith) fits.0 (omega arith) in
    let rest = reads_framed visible ds h fits.1 (omega arith) (omega arith) in
    omega arith

pub batch_read_short : (own : List ℕ) (visible : List Blob) (message reply : List ℕ) →
    AllByRecursion (λ (b : Blob). Names b.0 b.1) visible → length message ≤ 4194304 → batch_read_reply own visible message ≡ Ok reply →
    length reply < 2 ^ 32
batch_read_short own visible message reply named short h =
    let b = bind_ok (digests_to_read own message) _ reply h in
    let e = ok_is (read_reply visible b.0) reply b.2 in
    let asked = read_asked own message b.0 b.1 in
    let sent = asked.0.0 in
    let stated = asked.1 in
    let f = reads_framed visible b.0 named asked.0.1 (omega arith) (omega arith) in
    let w = each_written 1 (map (text_for read_blob_response_records) (map (λ d. read_response d (visible_text d visible)) b.0))
    (omega arith) (omega arith) in
    rw (← e) (omega arith)

-- ---- GetCapabilities

functions_text : length (packed_text (1 ∷ 6 ∷ [])) ≤ 20
functions_text =
    let first = (varint_is 1 (omega arith)).short in
    let second = (varint_is 6 (omega arith)).short in
    let all = length-append (varint 1) (varint 6 ++ []) in
    let last = length-append (varint 6) [] in
    omega arith

version_written : length (text_for sem_ver_records version) ≤ 40
version_written =
    let both = both_written (number_field 1 2) (number_field 2 0) in
    let major = number_written 1 2 (omega arith) (omega arith) in
    let minor = number_written 2 0 (omega arith) (omega arith) in
    let whole : length (text_for sem_ver_records version) ≡ length (records_text (number_field 1 2 ++ number_field 2 0)) = refl in
    omega arith

execution_written : (slots : ℕ) → length (text_for execution_capabilities_records (execution slots)) ≤ 40
execution_written slots = go (nat_lt 0 slots) where
  go : (b : Bool) → length (text_for execution_capabilities_records (record { digest_function = pos 1; exec_enabled = b })) ≤ 40
  go true =
      let both = both_written (number_field 1 1) (number_field 2 1) in
      let f = number_written 1 1 (omega arith) (omega arith) in
      let e = number_written 2 1 (omega arith) (omega arith) in
      let whole : length (text_for execution_capabilities_records (record { digest_function = pos 1; exec_enabled = true }))
      ≡ length (records_text (number_field 1 1 ++ number_field 2 1)) = refl in
      omega arith
  go false =
      let both = both_written (number_field 1 1) (number_field 2 0) in
      let f = number_written 1 1 (omega arith) (omega arith) in
      let e = number_written 2 0 (omega arith) (omega arith) in
      let whole : length (text_for execution_capabilities_records (record { digest_function = pos 1; exec_enabled = false }))
      ≡ length (records_text (number_field 1 1 ++ number_field 2 0)) = refl in
      omega arith

cache_written : length (text_for cache_capabilities_records cache) ≤ 120
cache_written =
    let functions = bytes_field 1 (packed_text (1 ∷ 6 ∷ [])) in
    let enabled = records_text (number_field 1 1) in
    let all = both_written ((functions ++ message_field 2 enabled) ++ number_field 4 4000000) (number_field 5 1) in
    let three = both_written (functions ++ message_field 2 enabled) (number_field 4 4000000) in
    let two = both_written functions (message_field 2 enabled) in
    let packed = functions_text in
    let first = bytes_written 1 (packed_text (1 ∷ 6 ∷ [])) (omega arith) (omega arith) in
    let flag = number_written 1 1 (omega arith) (omega arith) in
    let second = message_written 2 enabled (omega arith) (omega arith) in
    let third = number_written 4 4000000 (omega arith) (omega arith) in
    let fourth = number_written 5 1 (omega arith) (omega arith) in
    let whole : length (text_for cache_capabilities_records cache)
    ≡ length (records_text (((functions ++ message_field 2 enabled) ++ number_field 4 4000000) ++ number_field 5 1)) = refl in
    omega arith

capabilities_written : (slots : ℕ) → length (capabilities_message slots) ≤ 400
capabilities_written slots =
    let a = text_for cache_capabilities_records cache in
    let b = text_for execution_capabilities_records (execution slots) in
    let v = text_for sem_ver_records version in
    let all = both_written ((message_field 1 a ++ message_field 2 b) ++ message_field 4 v) (message_field 5 v) in
    let three = both_written (message_field 1 a ++ message_field 2 b) (message_field 4 v) in
    let two = both_written (message_field 1 a) (message_field 2 b) in
    let ca = cache_written in
    let ex = execution_written slots in
    let ve = version_written in
    let first = message_written 1 a (omega arith) (omega arith) in
    let second = message_written 2 b (omega arith) (omega arith) in
    let third = message_written 4 v (omega arith) (omega arith) in
    let fourth = message_written 5 v (omega arith) (omega arith) in
    let whole : length (capabilities_message slots)
    ≡ length (records_text (((message_field 1 a ++ message_field 2 b) ++ message_field 4 v) ++ message_field 5 v)) = refl in
    omega arith

pub get_capabilities_short : (own : List ℕ) (slots : ℕ) (message reply : List ℕ) → get_capabilities_reply own slots message ≡ Ok reply →
    length reply < 2 ^ 32
get_capabilities_short own slots message reply h =
    let b = bind_ok (capabilities_asked own message) _ reply h in
    let e = ok_is (capabilities_message slots) reply b.2 in
    let w = capabilities_written slots in
    rw (← e) (omega arith)
