-- The digests that are missing, as they were sent.
use Rattle.std.proofs.Common.{◌≡◌, ℕ, Bool, true, false, List, [], ◌∷◌, map, refl, sym, ap, ◌∙◌}
use Rattle.std.specs.List.{filter}
use Rattle.reapi_messages.specs.Digests.{DigestValue}
use Rattle.reapi_messages.specs.Parts.{text_for}
use Rattle.reapi_messages.specs.FindMissing.{find_missing_blobs_response_records}
use Rattle.std.specs.Prelude.{not, is_some, cond, Some, Ok}
use Rattle.std.specs.Map.{lookup}
use Rattle.digest.specs.declared.Digest.{Digest}
use Rattle.digest.specs.Naming.{same_digest, is_empty_digest}
use Rattle.blob_pool.specs.Slots.{Slots}
use Rattle.instance_view.specs.Visible.{Blob, visible_text}
use Rattle.instance_view.specs.Shown.{ViewValue, visible_in}
use Rattle.instance_view.specs.Sight.{SightValue, seen_in}
use Rattle.instance_view.proofs.Either.{both, both_shown}
use Rattle.instance_view.proofs.Entries.{is_some-shown}
use Rattle.cas_service.specs.Changes.{Use, visible_after_changes}
use Rattle.cas_service.specs.declared.requests.Asked.{Asked}
use Rattle.cas_service.specs.Requests.{digest_value}
use Rattle.cas_service.specs.FindMissing.{is_missing, missing_digests, missing_reply, digests_asked, find_missing_reply, find_missing_changes}
use Rattle.cas_service.specs.Shown.{asked_digest, digest_as_sent, is_unseen}

pub missing_sent : (visible : List Blob) (asked : List Asked) → map digest_as_sent asked ≡ map digest_value (map asked_digest asked)
    → map digest_as_sent (filter (is_unseen visible) asked) ≡ map digest_value (missing_digests visible (map asked_digest asked))
missing_sent visible [] h = refl
missing_sent visible (a ∷ as') h = go (is_missing visible a.digest) refl (missing_sent visible as' (tail_same h)) where
  tail_same : digest_as_sent a ∷ map digest_as_sent as' ≡ digest_value a.digest ∷ map digest_value (map asked_digest as') →
      map digest_as_sent as' ≡ map digest_value (map asked_digest as')
  tail_same h = cc

  head_same : digest_as_sent a ∷ map digest_as_sent as' ≡ digest_value a.digest ∷ map digest_value (map asked_digest as') →
      digest_as_sent a ≡ digest_value a.digest
  head_same h = cc

  go : (t : Bool) → is_missing visible a.digest ≡ t →
      map digest_as_sent (filter (is_unseen visible) as') ≡ map digest_value (missing_digests visible (map asked_digest as'))
      → map digest_as_sent (filter (is_unseen visible) (a ∷ as')) ≡ map digest_value (missing_digests visible (map asked_digest (a ∷ as')))
  go true is ih = let first = head_same h in rw is (cc)
  go false is ih = rw is ih

pub reply_is : (visible : List Blob) (asked : List Asked) (reply : List ℕ) (ds : List DigestValue) →
    map digest_as_sent asked ≡ map digest_value (map asked_digest asked)
    → ds ≡ map digest_as_sent (filter (is_unseen visible) asked) →
    reply ≡ text_for find_missing_blobs_response_records (record { missing_blob_digests = ds })
    → reply ≡ missing_reply (missing_digests visible (map asked_digest asked))
reply_is visible asked reply ds written found encoded =
    let is : ds ≡ map digest_value (missing_digests visible (map asked_digest asked)) = found ∙ missing_sent visible asked written in
    let of_digests : List DigestValue → List ℕ = λ vs. text_for find_missing_blobs_response_records
    (record { missing_blob_digests = vs }) in
    encoded ∙ ap of_digests is

-- which digests are missing is told by the entries alone, whatever their texts
seen_anywhere : (p q : Slots) (v : ViewValue) (d : Digest) →
    is_some (visible_text d (visible_in p v)) ≡ is_some (visible_text d (visible_in q v))
seen_anywhere p q v d = go (is_empty_digest d) refl where
  there : (p : Slots) → is_some (lookup (same_digest d) v.entries) ≡ is_some (lookup (same_digest d) (visible_in p v))
  there p = is_some-shown p (same_digest d) v.entries

  go : (t : Bool) → is_empty_digest d ≡ t → is_some (cond t (Some []) (lookup (same_digest d) (visible_in p v)))
      ≡ is_some (cond t (Some []) (lookup (same_digest d) (visible_in q v)))
  go true is = refl
  go false is = sym (there p) ∙ there q

missing_anywhere : (p q : Slots) (v : ViewValue) (ds : List Digest) →
    missing_digests (visible_in p v) ds ≡ missing_digests (visible_in q v) ds
missing_anywhere p q v [] = refl
missing_anywhere p q v (d ∷ ds) =
    let one : is_missing (visible_in p v) d ≡ is_missing (visible_in q v) d = ap (λ (b : Bool). not b) (seen_anywhere p q v d) in
    let rest = missing_anywhere p q v ds in
    rw (one, rest) refl

seen_missing_anywhere : (p q : Slots) (s : SightValue) (ds : List Digest) →
    missing_digests (seen_in p s) ds ≡ missing_digests (seen_in q s) ds
seen_missing_anywhere p q s ds =
    ap (λ (bs : List Blob). missing_digests bs ds) (sym (both_shown p s))
    ∙ missing_anywhere p q (both s) ds
    ∙ ap (λ (bs : List Blob). missing_digests bs ds) (both_shown q s)

pub reply_anywhere : (p q : Slots) (v : SightValue) (own message : List ℕ) (ds : List Digest) (reply : List ℕ) →
    digests_asked own message ≡ Ok ds → reply ≡ missing_reply (missing_digests (seen_in q v) ds) →
    find_missing_reply own (seen_in p v) message ≡ Ok reply
reply_anywhere p q v own message ds reply asked is =
    rw asked (ap (λ (t : List ℕ). Ok t) (ap missing_reply (seen_missing_anywhere p q v ds) ∙ sym is))

pub uses_asked : (limit quota : ℕ) (own message : List ℕ) (ds : List Digest) (old : List Blob) → digests_asked own message ≡ Ok ds →
    visible_after_changes limit quota (map Use ds) old ≡ visible_after_changes limit quota (find_missing_changes own message) old
uses_asked limit quota own message ds old asked = rw asked refl
