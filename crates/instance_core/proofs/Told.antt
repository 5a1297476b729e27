-- Replies of Write and QueryWriteStatus are short: each tells a size below 2^63.
use Rattle.std.proofs.Common.{◌≡◌, ℕ, pos, ◌+◌, ◌^◌, ◌<◌, ◌≤◌, Bool, true, false, cond, List, [], ◌∷◌, length, Option, Some, None, is_some, Result, Ok, Err, subst, arith}
use Rattle.std.specs.Map.{lookup}
use Rattle.reapi_messages.specs.Results.{◌>>=◌}
use Rattle.reapi_messages.specs.Writing.{records_text, number_field}
use Rattle.reapi_messages.proofs.Tools.{bind_ok, ok_is}
use Rattle.reapi_messages.specs.Fields.{value_of_text}
use Rattle.reapi_messages.specs.Parts.{text_for, flag_field}
use Rattle.reapi_messages.specs.ByteStream.{write_request_of, query_write_status_request_of, query_write_status_response_records}
use Rattle.rpc.specs.declared.refusal.Refusal.{Refusal}
use Rattle.bytestream.specs.Names.{write_name}
use Rattle.instance_view.specs.Visible.{Blob, visible_text}
use Rattle.cas_service.specs.Requests.{message_or_refusal, instance_check}
use Rattle.uploads.specs.Uploads.{KeyValue, UploadValue, UploadList, upload_at, text_so_far, text_in, uploads_length, AreUploadsWithin}
use Rattle.bytestream.specs.Refusals.{name_or_refusal}
use Rattle.bytestream.specs.Querying.{key_of_name, query_asked, status_of, status_of_upload, query_reply}
use Rattle.bytestream.specs.Writing.{OpenWriteValue, PartValue, FirstAsked, Answered, WriteState, first_asked, next_asked, same_name, part_answer, reply_first, reply_next, first_answer, next_answer, write_reply, unfinished_reply}
use Rattle.instance_core.proofs.NameSizes.{CanBeTold, write_told, named_ok}
use Rattle.tree_calls.proofs.Sizes.{number_written, both_written}

pub committed_short : (n : ℕ) → CanBeTold n → length (write_reply n) < 2 ^ 32
committed_short n few = let written = number_written 1 n (omega arith) (omega arith) in omega arith

status_short : (n : ℕ) (b : Bool) → CanBeTold n →
    length (text_for query_write_status_response_records (record { committed_size = pos n; complete = b })) < 2 ^ 32
status_short n b few =
    let both = both_written (number_field 1 n) (flag_field 2 b) in
    let size = number_written 1 n (omega arith) (omega arith) in
    let flag : length (records_text (flag_field 2 b)) ≤ 20 = flag_written b in
    omega arith
  where
    flag_written : (b : Bool) → length (records_text (flag_field 2 b)) ≤ 20
    flag_written true = number_written 2 1 (omega arith) (omega arith)
    flag_written false = number_written 2 0 (omega arith) (omega arith)

-- ---- what is asked

first_told : (own message : List ℕ) (asked : FirstAsked) → first_asked own message ≡ Ok asked → CanBeTold asked.part.key.digest.size
unfolding first_asked
first_told own message asked h =
    let q = bind_ok (message_or_refusal (value_of_text write_request_of message)) _ asked h in
    let n = bind_ok (name_or_refusal (write_name q.0.resource_name)) _ asked q.2 in
    let i = bind_ok (instance_check own n.0.instance) _ asked n.2 in
    let e = ok_is (record {
      name = q.0.resource_name;
      part = record {
        key = key_of_name n.0;
        piece = record { offset = q.0.write_offset; bytes = q.0.content };
        is_last =
            q.0.finish_write;
      };
    }) asked i.2 in
    subst (λ (x : FirstAsked). CanBeTold x.part.key.digest.size) e
    (write_told q.0.resource_name n.0 (named_ok (write_name q.0.resource_name) n.0 n.1))

next_told : (call : OpenWriteValue) (message : List ℕ) (part : PartValue) → CanBeTold call.key.digest.size →
    next_asked call message ≡ Ok part → CanBeTold part.key.digest.size
unfolding next_asked
next_told call message part few h =
    let q = bind_ok (message_or_refusal (value_of_text write_request_of message)) _ part h in
    let s = bind_ok (same_name call.name q.0.resource_name) _ part q.2 in
    let e = ok_is (record { key = call.key; piece = record { offset = q.0.write_offset; bytes = q.0.content }; is_last = q.0.finish_write })
    part s.2 in
    rw (← e) few

query_told : (own message : List ℕ) (key : KeyValue) → query_asked own message ≡ Ok key → CanBeTold key.digest.size
unfolding query_asked
query_told own message key h =
    let q = bind_ok (message_or_refusal (value_of_text query_write_status_request_of message)) _ key h in
    let n = bind_ok (name_or_refusal (write_name q.0.resource_name)) _ key q.2 in
    let i = bind_ok (instance_check own n.0.instance) _ key n.2 in
    let e = ok_is (key_of_name n.0) key i.2 in
    subst (λ (x : KeyValue). CanBeTold x.digest.size) e (write_told q.0.resource_name n.0 (named_ok (write_name q.0.resource_name) n.0 n.1))

-- ---- uploads

text_few : (t : KeyValue → Bool) (us : UploadList) → length (text_in (lookup t us)) ≤ uploads_length us
text_few t [] = omega arith
text_few t (u ∷ us) = go (t u.0) (text_few t us) where
  go : (b : Bool) → length (text_in (lookup t us)) ≤ uploads_length us →
      length (text_in (cond b (Some u.1) (lookup t us))) ≤ length u.1.text + uploads_length us
  go true ih = omega arith
  go false ih = omega arith

upload_few : (quota : ℕ) (key : KeyValue) (us : UploadList) → quota ≤ 2 ^ 40 → AreUploadsWithin quota us →
    CanBeTold (length (text_so_far key us))
upload_few quota key us most within =
    let bytes = within.bytes in
    let few = text_few (Rattle.uploads.specs.Uploads.same_upload key) us in
    omega arith

pub unfinished_short : (quota : ℕ) (key : KeyValue) (us : UploadList) → quota ≤ 2 ^ 40 → AreUploadsWithin quota us →
    length (unfinished_reply key us) < 2 ^ 32
unfinished_short quota key us most within = committed_short (length (text_so_far key us)) (upload_few quota key us most within)

-- ---- replies

first_complete : (asked : FirstAsked) (complete : Bool) (reply : List ℕ) → CanBeTold asked.part.key.digest.size →
    reply_first asked complete ≡ Answered reply → length reply < 2 ^ 32
first_complete asked true reply few h =
    let same : write_reply asked.part.key.digest.size ≡ reply = cc in
    rw (← same) (committed_short asked.part.key.digest.size few)
first_complete asked false reply few h = absurd (cc)

pub first_short : (own : List ℕ) (quota moment : ℕ) (w : WriteState) (message reply : List ℕ) →
    first_answer own quota moment w message ≡ Ok (Answered reply) → length reply < 2 ^ 32
first_short own quota moment w message reply h =
    let a = bind_ok (first_asked own message) _ (Answered reply) h in
    let told = first_told own message a.0 a.1 in
    go a.0 told (is_some (visible_text a.0.part.key.digest w.visible)) (part_answer true quota moment a.0.part w.uploads) a.2
  where
    go : (asked : FirstAsked) → CanBeTold asked.part.key.digest.size → (b : Bool) (r : Result Bool Refusal)
        → cond b (Ok (reply_first asked true)) (r >>= λ complete. Ok (reply_first asked complete)) ≡ Ok (Answered reply) →
        length reply < 2 ^ 32
    go asked told true r h = first_complete asked true reply told (ok_is (reply_first asked true) (Answered reply) h)
    go asked told false (Ok complete) h = first_complete asked complete reply told (ok_is (reply_first asked complete) (Answered reply) h)
    go asked told false (Err refusal) h = absurd (cc)

next_complete : (part : PartValue) (complete : Bool) (reply : List ℕ) → CanBeTold part.key.digest.size →
    reply_next part complete ≡ Some reply → length reply < 2 ^ 32
next_complete part true reply few h =
    let same : write_reply part.key.digest.size ≡ reply = cc in
    rw (← same) (committed_short part.key.digest.size few)
next_complete part false reply few h = absurd (cc)

pub next_short : (call : OpenWriteValue) (quota moment : ℕ) (us : UploadList) (message reply : List ℕ) → CanBeTold call.key.digest.size →
    next_answer call quota moment us message ≡ Ok (Some reply) → length reply < 2 ^ 32
next_short call quota moment us message reply few h =
    let p = bind_ok (next_asked call message) _ (Some reply) h in
    let c = bind_ok (part_answer false quota moment p.0 us) _ (Some reply) p.2 in
    next_complete p.0 c.0 reply (next_told call message p.0 few p.1) (ok_is (reply_next p.0 c.0) (Some reply) c.2)

pub query_short : (own : List ℕ) (quota : ℕ) (visible : List Blob) (us : UploadList) (message reply : List ℕ) → quota ≤ 2 ^ 40 →
    AreUploadsWithin quota us → query_reply own visible us message ≡ Ok reply → length reply < 2 ^ 32
query_short own quota visible us message reply most within h =
    let k = bind_ok (query_asked own message) _ reply h in
    let s = bind_ok (status_of k.0 visible us) _ reply k.2 in
    let e = ok_is (text_for query_write_status_response_records s.0) reply s.2 in
    subst (λ (x : List ℕ). length x < 2 ^ 32) e (told k.0 (query_told own message k.0 k.1) s.0
    (is_some (visible_text k.0.digest visible)) s.1)
  where
    of_upload : (key : KeyValue) (o : Option UploadValue) (status : Rattle.reapi_messages.specs.ByteStream.QueryWriteStatusResponseValue) →
        length (text_in o) < 2 ^ 63 → status_of_upload o ≡ Ok status
        → length (text_for query_write_status_response_records status) < 2 ^ 32
    of_upload key (Some upload) status few h =
        let e = ok_is (record { committed_size = pos (length upload.text); complete = false }) status h in
        rw (← e) (status_short (length upload.text) false few)
    of_upload key None status few h = absurd (cc)

    told : (key : KeyValue) → CanBeTold key.digest.size →
        (status : Rattle.reapi_messages.specs.ByteStream.QueryWriteStatusResponseValue) (b : Bool)
        → cond b (Ok (record { committed_size = pos key.digest.size; complete = true })) (status_of_upload (upload_at key us)) ≡ Ok status
        → length (text_for query_write_status_response_records status) < 2 ^ 32
    told key few status true h =
        let e = ok_is (record { committed_size = pos key.digest.size; complete = true }) status h in
        rw (← e) (status_short key.digest.size true few)
    told key few status false h = of_upload key (upload_at key us) status (upload_few quota key us most within) h
