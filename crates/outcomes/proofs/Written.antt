-- How long Operations are.
use Rattle.std.proofs.Common.{◌≡◌, ℕ, pos, ◌+◌, ◌*◌, ◌^◌, ◌<◌, ◌≤◌, Bool, true, false, cond, nat_eq, List, [], ◌∷◌, ◌++◌, length, map, Option, Some, None, refl, codes, arith}
use Rattle.std.specs.Fmt.{decimal}
use Rattle.std.specs.List.{AllByRecursion, list_any}
use Rattle.std.proofs.lemmas.Fmt.{length-decimal-le}
use Rattle.std.proofs.lemmas.List.{length-append}
use Rattle.digest.specs.declared.Digest.{Digest}
use Rattle.digest.specs.Naming.{same_digest}
use Rattle.digest.specs.Text.{hash_text}
use Rattle.protobuf_wire.specs.Writing.{records_text, number_field, bytes_field, message_field}
use Rattle.protobuf_wire.specs.Parts.{text_for, string_field, int64_field, flag_field, embedded_field, repeated_field}
use Rattle.reapi_messages.specs.Digests.{digest_records}
use Rattle.reapi_messages.specs.Statuses.{AnyValue, any_records, status_records}
use Rattle.execution_messages.specs.Operations.{execute_response_records, violation_records}
use Rattle.job_queue.specs.declared.queue.TheConstants.{LAST_NUMBER}
use Rattle.job_queue.proofs.Orders.{all-append}
use Rattle.execution_messages.specs.declared.fault.Fault.{Fault}
use Rattle.execution_messages.specs.declared.fault.Fault.TheVariants.{BadAction}
use Rattle.execution_messages.specs.Faults.{code_of, text_of}
use Rattle.execution_messages.specs.Progress.{EndValue, finds, gives, fails, completed_text, executing_text, metadata_text, metadata_url, operation_name, operation_text, queued_text, response_any, response_text, response_url}
use Rattle.execution_messages.specs.Statuses.{details_of, distinct, failure_text, failure_url, status_of, status_with, subject_of, violation_of, with_all_distinct, with_distinct}
use Rattle.execution_messages.specs.Written.{digest_value}
use Rattle.tree_calls.proofs.Sizes.{both_written}
use Rattle.outcomes.specs.Short.{HasForm}
use Rattle.outcomes.proofs.Fields.{payload_written, text_written, middle_text_written, number_written, flag_written, more_written}

-- ---- digests

pub digest_written : (hash : List ℕ) (size : ℕ) → length hash ≤ 128 → size < 2 ^ 64 →
    length (text_for digest_records (record { hash = hash; size_bytes = pos size })) ≤ 142
digest_written hash size few fits =
    let both = both_written (string_field 1 hash) (int64_field 2 (pos size)) in
    let first = middle_text_written 1 hash (omega arith) (omega arith) in
    let second = number_written 2 size (omega arith) fits in
    omega arith

form_written : (d : Digest) → HasForm d → length (text_for digest_records (digest_value d)) ≤ 142
form_written d h = let size = h.size in digest_written (hash_text d) d.size h.hash (omega arith)

-- ---- Operations

any_written : (url value : List ℕ) → length url < 2 ^ 40 → length value < 2 ^ 40 →
    length (text_for any_records (record { type_url = url; value = value })) ≤ 22 + length url + length value
any_written url value few short =
    let both = both_written (string_field 1 url) (bytes_field 2 value) in
    let first = text_written 1 url (omega arith) (omega arith) in
    let second = text_written 2 value (omega arith) (omega arith) in
    omega arith

metadata_written : (stage : ℕ) (d : Digest) → stage < 2 ^ 64 → HasForm d → length (metadata_text (pos stage) (digest_value d)) ≤ 164
metadata_written stage d fits h =
    let digest = form_written d h in
    let both = both_written (number_field 1 stage) (message_field 2 (text_for digest_records (digest_value d))) in
    let first = number_written 1 stage (omega arith) fits in
    let second = payload_written 2 (text_for digest_records (digest_value d)) (omega arith) (omega arith) in
    omega arith

name_short : (n : ℕ) → n < 2 ^ 64 → length (operation_name n) ≤ 31
name_short n fits =
    let parts = length-append (codes "operations/") (decimal n) in
    let digits = length-decimal-le 20 n (omega arith) (omega arith) fits in
    omega arith

abbrev response_size : Option (List ℕ) → ℕ
response_size None = 0
response_size (Some t) = length t

response_written : (response : Option (List ℕ)) → response_size response < 2 ^ 39 →
    length (records_text (embedded_field any_records 5 (response_any response))) ≤ 100 + response_size response
response_written None short = omega arith
response_written (Some text) short =
    let url : length response_url ≡ 67 = refl in
    let inside = any_written response_url text (omega arith) (omega arith) in
    let around = payload_written 5 (text_for any_records (record { type_url = response_url; value = text })) (omega arith) (omega arith) in
    omega arith

operation_written : (n stage : ℕ) (d : Digest) (done : Bool) (response : Option (List ℕ)) → n < 2 ^ 64 → stage < 2 ^ 64 → HasForm d →
    response_size response < 2 ^ 39 → length (operation_text n (pos stage) (digest_value d) done response) ≤ 420 + response_size response
operation_written n stage d done response number fits h short =
    let metadata = metadata_text (pos stage) (digest_value d) in
    let any = text_for any_records (record { type_url = metadata_url; value = metadata }) in
    let front = string_field 1 (operation_name n) ++ message_field 2 any in
    let all = both_written (front ++ flag_field 3 done) (embedded_field any_records 5 (response_any response)) in
    let three = both_written front (flag_field 3 done) in
    let two = both_written (string_field 1 (operation_name n)) (message_field 2 any) in
    let name = name_short n number in
    let first = text_written 1 (operation_name n) (omega arith) (omega arith) in
    let url : length metadata_url ≡ 76 = refl in
    let inner = metadata_written stage d fits h in
    let inside = any_written metadata_url metadata (omega arith) (omega arith) in
    let second = payload_written 2 any (omega arith) (omega arith) in
    let third = flag_written 3 done (omega arith) in
    let fourth = response_written response short in
    omega arith

number_fits : (n : ℕ) → n ≤ LAST_NUMBER + 1 → n < 2 ^ 64
number_fits n h = omega arith

pub queued_short : (n : ℕ) (d : Digest) → n ≤ LAST_NUMBER + 1 → HasForm d → length (queued_text n d) ≤ 500
queued_short n d few h = let e = operation_written n 2 d false None (number_fits n few) (omega arith) h (omega arith) in omega arith

pub executing_short : (n : ℕ) (d : Digest) → n ≤ LAST_NUMBER + 1 → HasForm d → length (executing_text n d) ≤ 500
executing_short n d few h = let e = operation_written n 3 d false None (number_fits n few) (omega arith) h (omega arith) in omega arith

-- ---- ends

completed_written : (n : ℕ) (d : Digest) (e : EndValue) → n ≤ LAST_NUMBER + 1 → HasForm d → length (response_text e) < 2 ^ 39 →
    length (completed_text n d e) ≤ 420 + length (response_text e)
completed_written n d e few h short = operation_written n 4 d true (Some (response_text e)) (number_fits n few) (omega arith) h short

result_written : (text : List ℕ) (cached : Bool) → length text < 2 ^ 32 →
    length (text_for execute_response_records (record { result = Some text; cached_result = cached; status = None })) ≤ 13 + length text
result_written text cached short =
    let all = both_written (message_field 1 text ++ flag_field 2 cached) [] in
    let both = both_written (message_field 1 text) (flag_field 2 cached) in
    let first = payload_written 1 text (omega arith) (omega arith) in
    let second = flag_written 2 cached (omega arith) in
    omega arith

pub found_short : (n : ℕ) (d : Digest) (text : List ℕ) → n ≤ LAST_NUMBER + 1 → HasForm d → length text < 2 ^ 32 →
    length (completed_text n d (finds text)) ≤ 1000 + length text
found_short n d text few h short =
    let response = result_written text true short in
    let whole = completed_written n d (finds text) few h (omega arith) in
    omega arith

pub given_short : (n : ℕ) (d : Digest) (text : List ℕ) → n ≤ LAST_NUMBER + 1 → HasForm d → length text < 2 ^ 32 →
    length (completed_text n d (gives text)) ≤ 1000 + length text
given_short n d text few h short =
    let response = result_written text false short in
    let whole = completed_written n d (gives text) few h (omega arith) in
    omega arith

-- ---- faults

code_small : (fault : Fault) → code_of fault < 17
code_small BadAction = omega arith
code_small _ = omega arith

text_small : (fault : Fault) → length (text_of fault) ≤ 14
text_small BadAction = omega arith
text_small _ = omega arith

abbrev details_size : List AnyValue → ℕ
details_size details = length (records_text (repeated_field any_records 3 details))

status_written : (fault : Fault) (details : List AnyValue) →
    length (text_for status_records (status_with fault details)) ≤ 36 + details_size details
status_written fault details =
    let front = number_field 1 (code_of fault) ++ string_field 2 (text_of fault) in
    let all = both_written front (repeated_field any_records 3 details) in
    let both = both_written (number_field 1 (code_of fault)) (string_field 2 (text_of fault)) in
    let code = code_small fault in
    let words = text_small fault in
    let first = number_written 1 (code_of fault) (omega arith) (omega arith) in
    let second = text_written 2 (text_of fault) (omega arith) (omega arith) in
    omega arith

failed_written : (fault : Fault) (missing : List Digest) → details_size (details_of missing) < 2 ^ 38 →
    length (response_text (fails fault missing)) ≤ 47 + details_size (details_of missing)
failed_written fault missing short =
    let inside = status_written fault (details_of missing) in
    let around = payload_written 3 (text_for status_records (status_of fault missing)) (omega arith) (omega arith) in
    omega arith

pub failed_short : (n : ℕ) (d : Digest) (fault : Fault) → n ≤ LAST_NUMBER + 1 → HasForm d →
    length (completed_text n d (fails fault [])) ≤ 1000
failed_short n d fault few h =
    let response = failed_written fault [] (omega arith) in
    let whole = completed_written n d (fails fault []) few h (omega arith) in
    omega arith

-- ---- missing blobs

-- each has its form, and they are no more than a number
pub record AreFew (most : ℕ) (ds : List Digest) : Type 0 where
  pub forms : AllByRecursion HasForm ds
  pub few : length ds ≤ most

one_distinct : (most : ℕ) (ds : List Digest) (d : Digest) → AreFew most ds → HasForm d → AreFew (most + 1) (with_distinct ds d)
one_distinct most ds d h one = go (list_any (same_digest d) ds) where
  go : (b : Bool) → AreFew (most + 1) (cond b ds (ds ++ d ∷ []))
  go true = let few = h.few in record { forms = h.forms; few = omega arith }
  go false =
      let few = h.few in
      let parts = length-append ds (d ∷ []) in
      record { forms = all-append HasForm ds (d ∷ []) h.forms (one, tt); few = omega arith }

all_distinct : (most : ℕ) (ds cs : List Digest) → AreFew most ds → AllByRecursion HasForm cs →
    AreFew (most + length cs) (with_all_distinct ds cs)
all_distinct most ds [] h g = let few = h.few in record { forms = h.forms; few = omega arith }
all_distinct most ds (c ∷ cs) h g =
    let rest = all_distinct (most + 1) (with_distinct ds c) cs (one_distinct most ds c h g.0) g.1 in
    let few = rest.few in
    record { forms = rest.forms; few = omega arith }

each_distinct : (ds : List Digest) → AllByRecursion HasForm ds → AreFew (length ds) (distinct ds)
each_distinct ds h =
    let all = all_distinct 0 [] ds (record { forms = tt; few = omega arith }) h in
    let few = all.few in
    record { forms = all.forms; few = omega arith }

subject_short : (d : Digest) → HasForm d → length (subject_of d) ≤ 155
subject_short d h =
    let size = h.size in
    let hash = h.hash in
    let digits = length-decimal-le 20 d.size (omega arith) (omega arith) (omega arith) in
    let all = length-append ((codes "blobs/" ++ hash_text d) ++ codes "/") (decimal d.size) in
    let three = length-append (codes "blobs/" ++ hash_text d) (codes "/") in
    let two = length-append (codes "blobs/") (hash_text d) in
    omega arith

violation_written : (d : Digest) → HasForm d → length (text_for violation_records (violation_of (subject_of d))) ≤ 184
violation_written d h =
    let subject = subject_short d h in
    let both = both_written (string_field 1 (codes "MISSING")) (string_field 2 (subject_of d)) in
    let first = text_written 1 (codes "MISSING") (omega arith) (omega arith) in
    let second = text_written 2 (subject_of d) (omega arith) (omega arith) in
    omega arith

violations_written : (ds : List Digest) → AllByRecursion HasForm ds →
    length (records_text (repeated_field violation_records 1 (map violation_of (map subject_of ds)))) ≤ 195 * length ds
violations_written [] h = omega arith
violations_written (d ∷ ds) h =
    let one = violation_written d h.0 in
    let more = more_written 1 (text_for violation_records (violation_of (subject_of d)))
    (map (text_for violation_records) (map violation_of (map subject_of ds))) (omega arith) (omega arith) in
    let rest = violations_written ds h.1 in
    omega arith

failure_written : (ds : List Digest) → AllByRecursion HasForm ds → length (failure_text ds) ≤ 195 * length ds
failure_written ds h =
    let once = each_distinct ds h in
    let few = once.few in
    let all = violations_written (distinct ds) once.forms in
    omega arith

details_written : (ds : List Digest) → AllByRecursion HasForm ds → length ds < 2 ^ 20 → details_size (details_of ds) ≤ 150 + 195 * length ds
details_written ds h few = go (nat_eq (length ds) 0) where
  any : AnyValue
  any = record { type_url = failure_url; value = failure_text ds }

  go : (b : Bool) → details_size (cond b [] (any ∷ [])) ≤ 150 + 195 * length ds
  go true = omega arith
  go false =
      let text = failure_written ds h in
      let url : length failure_url ≡ 50 = refl in
      let inside = any_written failure_url (failure_text ds) (omega arith) (omega arith) in
      let around = more_written 3 (text_for any_records any) [] (omega arith) (omega arith) in
      omega arith

pub missing_short : (n : ℕ) (d : Digest) (fault : Fault) (missing : List Digest) → n ≤ LAST_NUMBER + 1 → HasForm d →
    AllByRecursion HasForm missing → length missing < 2 ^ 20 →
    length (completed_text n d (fails fault missing)) ≤ 1000 + 200 * length missing
missing_short n d fault missing few h forms count =
    let details = details_written missing forms count in
    let response = failed_written fault missing (omega arith) in
    let whole = completed_written n d (fails fault missing) few h (omega arith) in
    omega arith
