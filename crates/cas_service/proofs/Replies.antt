-- Replies that are written one entry after another.
use Rattle.std.proofs.Common.{◌≡◌, ◌-◌, ◌<◌, Bool, false, List, [], ◌∷◌, length, take, drop, slice_index_or, map, Some, refl, sym, ap, ◌∙◌, arith}
use Rattle.std.proofs.Math.Seq.{take-length}
use Rattle.std.specs.Prelude.{is_some}
use Rattle.std.specs.List.{filter}
use Rattle.protobuf_wire.proofs.Written.{followed_by_none, followed_by_both, from_nothing}
use Rattle.protobuf_wire.proofs.FieldTexts.{text_append}
use Rattle.reapi_messages.specs.Record.{Record}
use Rattle.reapi_messages.specs.Writing.{WriterValue, Text, followed_by, followed_by_records, records_text}
use Rattle.reapi_messages.specs.Parts.{embedded_field, text_for}
use Rattle.reapi_messages.specs.Digests.{DigestValue, digest_records}
use Rattle.reapi_messages.specs.FindMissing.{find_missing_blobs_response_records}
use Rattle.instance_view.specs.Visible.{Blob, visible_text}
use Rattle.cas_service.specs.declared.requests.Asked.{Asked}
use Rattle.cas_service.specs.Shown.{digest_as_sent, is_unseen}

-- what was written, and then the digests that are still to come
abbrev pub missing_behind : WriterValue → List DigestValue → WriterValue
missing_behind w vs = followed_by_records w (find_missing_blobs_response_records (record { missing_blob_digests = vs }))

missing_next : (w : WriterValue) (v : DigestValue) (vs : List DigestValue) →
    missing_behind w (v ∷ vs) ≡ missing_behind (followed_by_records w (embedded_field digest_records 2 (Some v))) vs
missing_next w v vs =
    let part : List Record = embedded_field digest_records 2 (Some v) in
    let rest : List Record = find_missing_blobs_response_records (record { missing_blob_digests = vs }) in
    ap (followed_by w) (text_append part rest) ∙ followed_by_both w (records_text part) (records_text rest)

missing_end : (w : WriterValue) → missing_behind w [] ≡ w
missing_end w = followed_by_none w

-- the loop's step, where the list of the digests that come is as the code takes its first
pub missing_step : (visible : List Blob) (all w next : WriterValue) (left : List Asked) (default : Asked) (found : Bool) → 0 < length left →
    found ≡ is_some (visible_text (slice_index_or left 0 default).digest visible) → found ≡ false →
    next ≡ followed_by_records w (embedded_field digest_records 2 (Some (digest_as_sent (slice_index_or left 0 default))))
    → missing_behind w (map digest_as_sent (filter (is_unseen visible) left)) ≡ all →
    missing_behind next (map digest_as_sent (filter (is_unseen visible) (take (length left - 1) (drop 1 left)))) ≡ all
missing_step visible all w next [] default found some there none grown h = absurd (omega arith)
missing_step visible all w next (a ∷ as') default found some there none grown h =
    let count : length (a ∷ as') - 1 ≡ length as' = omega arith in
    let unseen : is_some (visible_text a.digest visible) ≡ false = sym there ∙ none in
    let rest : List DigestValue = map digest_as_sent (filter (is_unseen visible) as') in
    let listed : map digest_as_sent (filter (is_unseen visible) (a ∷ as')) ≡ digest_as_sent a ∷ rest = rw unseen refl in
    rw (count, take-length, grown) (sym (missing_next w (digest_as_sent a) rest) ∙ ap (missing_behind w) (sym listed) ∙ h)

-- where no digest is left, all are written
pub missing_all : (visible : List Blob) (w : WriterValue) (left : List Asked) (ds : List DigestValue) → length left < 1 →
    missing_behind w (map digest_as_sent (filter (is_unseen visible) left)) ≡ missing_behind (Text []) ds →
    w ≡ Text (text_for find_missing_blobs_response_records (record { missing_blob_digests = ds }))
missing_all visible w [] ds none h = sym (missing_end w) ∙ h
    ∙ from_nothing (text_for find_missing_blobs_response_records (record { missing_blob_digests = ds }))
missing_all visible w (a ∷ as') ds none h = absurd (omega arith)
