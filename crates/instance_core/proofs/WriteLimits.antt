-- What a message of a Write leaves keeps the limits of an instance.
use Rattle.std.proofs.Common.{◌≡◌, ◌<◌, ◌^◌, ℕ, Bool, true, false, cond, List, Result, Ok, Err, refl, subst}
use Rattle.std.specs.Prelude.{is_some}
use Rattle.reapi_messages.specs.Results.{◌>>=◌}
use Rattle.reapi_messages.specs.Fields.{value_of_text}
use Rattle.reapi_messages.specs.ByteStream.{WriteRequestValue, write_request_of}
use Rattle.rpc.specs.declared.refusal.Refusal.{Refusal}
use Rattle.digest.specs.Naming.{Names, is_digest_of}
use Rattle.digest.proofs.Same.{same_names}
use Rattle.instance_view.specs.Visible.{visible_text}
use Rattle.quota_evict.specs.Within.{AreBlobsWithin}
use Rattle.quota_evict.proofs.Limits.{admitted_within}
use Rattle.cas_service.specs.Requests.{message_or_refusal, instance_check}
use Rattle.bytestream.specs.NameError.{NameError}
use Rattle.bytestream.specs.Names.{WriteNameValue, write_name}
use Rattle.uploads.specs.declared.error.UploadError.{UploadError}
use Rattle.uploads.specs.declared.error.UploadError.TheVariants.{Offset, Hash as WrongHash, Size as WrongSize, TooMany, OverQuota, NoMemory}
use Rattle.uploads.specs.Uploads.{KeyValue, UploadList, text_so_far, AreUploadsWithin}
use Rattle.uploads.specs.Writing.{call_answer, finish_answer, after_piece, Answers}
use Rattle.uploads.proofs.ListLemmas.{within_without, within_call}
use Rattle.bytestream.specs.Refusals.{name_or_refusal}
use Rattle.bytestream.specs.Querying.{key_of_name}
use Rattle.bytestream.specs.Writing as Writing
use Rattle.bytestream.specs.Writing.{OpenWriteValue, PartValue, WriteState, FirstAsked, first_asked, part_outcome, part_answer, after_last_part, after_end, after_taking, after_part, reply_first, first_part_answer}
use Rattle.instance_core.proofs.StatedSizes.{name_below}
use Rattle.instance_core.specs.State.{InstanceState}
use Rattle.instance_core.specs.Writes.{write_state, with_piece, with_part, first_outcome}

-- texts and uploads within their limits
pub record IsWithin (limit quota : ℕ) (w : WriteState) : Type 0 where
  pub texts : AreBlobsWithin limit quota w.visible
  pub uploads : AreUploadsWithin quota w.uploads

-- ---- a piece

meaning : (r m : Result Unit UploadError) → r ≡ m → Answers r m
meaning (Ok u) m is = is
meaning (Err NoMemory) m is = tt
meaning (Err Offset) m is = is
meaning (Err WrongSize) m is = is
meaning (Err WrongHash) m is = is
meaning (Err TooMany) m is = is
meaning (Err OverQuota) m is = is

taken_within : (first : Bool) (quota moment : ℕ) (part : PartValue) (us : UploadList) (r : Result Unit UploadError) →
    r ≡ part_outcome first quota part us → AreUploadsWithin quota us → AreUploadsWithin quota (after_piece moment part.key part.piece r us)
taken_within first quota moment part us r is w =
    within_call first quota moment part.key part.piece us r w (meaning r (call_answer first quota part.key part.piece us) is)

-- ---- the end of an upload

pub finish_names : (key : KeyValue) (us : UploadList) (u : Unit {0}) → Ok u ≡ finish_answer key us → Names key.digest (text_so_far key us)
finish_names key us u is = go (is_digest_of key.digest (text_so_far key us)) refl is where
  go : (b : Bool) → is_digest_of key.digest (text_so_far key us) ≡ b → Ok u ≡ cond b (Ok tt) (Err WrongHash) →
      Names key.digest (text_so_far key us)
  go true test is = same_names key.digest (text_so_far key us) test
  go false test is = cc

finished_within : (limit quota : ℕ) (key : KeyValue) (w : WriteState) (r : Result Unit UploadError) → 0 < limit →
    r ≡ finish_answer key w.uploads → IsWithin limit quota w → IsWithin limit quota (after_last_part limit quota key r w)
finished_within limit quota key w (Ok u) some is h = record {
  texts = admitted_within limit quota key.digest (text_so_far key w.uploads) w.visible some (finish_names key w.uploads u is) h.texts;
  uploads = within_without quota key w.uploads h.uploads;
}
finished_within limit quota key w (Err e) some is h = record { texts = h.texts; uploads = within_without quota key w.uploads h.uploads }

end_within : (limit quota : ℕ) (part : PartValue) (w : WriteState) → 0 < limit → IsWithin limit quota w →
    IsWithin limit quota (after_end limit quota part w)
end_within limit quota part w some h = go part.is_last where
  go : (last : Bool) → IsWithin limit quota (cond last (after_last_part limit quota part.key (finish_answer part.key w.uploads) w) w)
  go true = finished_within limit quota part.key w (finish_answer part.key w.uploads) some refl h
  go false = h

part_within : (first : Bool) (limit quota moment : ℕ) (part : PartValue) (w : WriteState) (r : Result Unit UploadError) → 0 < limit →
    r ≡ part_outcome first quota part w.uploads → IsWithin limit quota w → IsWithin limit quota (after_taking limit quota moment part r w)
part_within first limit quota moment part w (Ok u) some is h =
    let taken : WriteState = record w { uploads = after_piece moment part.key part.piece (Ok u) w.uploads } in
    end_within limit quota part taken some (record
    { texts = h.texts; uploads = taken_within first quota moment part w.uploads (Ok u) is h.uploads })
part_within first limit quota moment part w (Err e) some is h =
    record { texts = h.texts; uploads = taken_within first quota moment part w.uploads (Err e) is h.uploads }

-- ---- a part of a message

pub whole_within : (first : Bool) (s : InstanceState) (part : PartValue) → 0 < s.limits.blobs →
    IsWithin s.limits.blobs s.quota (write_state s) →
    IsWithin s.limits.blobs s.quota (after_part first s.limits.blobs s.quota s.moment part (write_state s))
whole_within first s part some h = part_within first s.limits.blobs s.quota s.moment part (write_state s)
    (part_outcome first s.quota part s.uploads) some refl h

-- a piece that was taken, before its upload ends
pub piece_within : (first : Bool) (s : InstanceState) (part : PartValue) → IsWithin s.limits.blobs s.quota (write_state s) →
    IsWithin s.limits.blobs s.quota (with_part first s part)
piece_within first s part h = go (part_outcome first s.quota part s.uploads) refl where
  go : (r : Result Unit UploadError) → r ≡ part_outcome first s.quota part s.uploads →
      IsWithin s.limits.blobs s.quota (with_piece s.moment part r (write_state s))
  go (Ok u) is = record { texts = h.texts; uploads = taken_within first s.quota s.moment part s.uploads (Ok u) is h.uploads }
  go (Err e) is = h

-- ---- the size of an upload

abbrev IsBelow : FirstAsked → Type 0
IsBelow asked = asked.part.key.digest.size < 2 ^ 63

abbrev asked_of : WriteRequestValue → WriteNameValue → FirstAsked
asked_of request name = record {
  name = request.resource_name;
  part = record {
    key = key_of_name name;
    piece = record { offset = request.write_offset; bytes = request.content };
    is_last =
        request.finish_write;
  };
}

asked_below : (own message : List ℕ) (asked : FirstAsked) → first_asked own message ≡ Ok asked → IsBelow asked
unfolding first_asked
asked_below own message asked is = go (message_or_refusal (value_of_text write_request_of message)) is where
  owned : (request : WriteRequestValue) (name : WriteNameValue) (o : Result Unit Refusal) → name.digest.size < 2 ^ 63 →
      (o >>= λ _. Ok (asked_of request name)) ≡ Ok asked → IsBelow asked
  owned request name (Ok _) below is = let same : asked_of request name ≡ asked = cc in subst IsBelow same below
  owned request name (Err e) below is = absurd (cc)

  with_name : (request : WriteRequestValue) (n : Result WriteNameValue NameError) → write_name request.resource_name ≡ n
      → (name_or_refusal n >>= λ name. instance_check own name.instance >>= λ _. Ok (asked_of request name)) ≡ Ok asked → IsBelow asked
  with_name request (Ok name) at is = owned request name (instance_check own name.instance) (name_below request.resource_name name at) is
  with_name request (Err e) at is = absurd (cc)

  go : (r : Result WriteRequestValue Refusal) → (r >>= λ request. name_or_refusal
      (write_name request.resource_name) >>= λ name. instance_check own name.instance >>= λ _. Ok (asked_of request name)) ≡ Ok asked →
      IsBelow asked
  go (Ok request) is = with_name request (write_name request.resource_name) refl is
  go (Err e) is = absurd (cc)

-- a Write that goes on writes an upload whose size can be told
pub goes_below : (s : InstanceState) (message : List ℕ) (write : OpenWriteValue) → first_outcome s message ≡ Ok (Writing.Goes write) →
    write.key.digest.size < 2 ^ 63
goes_below s message write is = go (first_asked s.name message) refl is where
  answer : (asked : FirstAsked) (seen_now : Bool) (c : Result Bool Refusal) → first_asked s.name message ≡ Ok asked
      → cond seen_now (Ok (reply_first asked true)) (c >>= λ complete. Ok (reply_first asked complete)) ≡ Ok (Writing.Goes write) →
      write.key.digest.size < 2 ^ 63
  answer asked true c at is = absurd (cc)
  answer asked false (Ok true) at is = absurd (cc)
  answer asked false (Ok false) at is =
      let kept : OpenWriteValue = record { name = asked.name; key = asked.part.key } in
      let same : kept ≡ write = cc in
      subst (λ (w : OpenWriteValue). w.key.digest.size < 2 ^ 63) same (asked_below s.name message asked at)
  answer asked false (Err e) at is = absurd (cc)

  go : (r : Result FirstAsked Refusal) → first_asked s.name message ≡ r →
      (r >>= λ asked. first_part_answer s.quota s.moment asked (write_state s)) ≡ Ok (Writing.Goes write) → write.key.digest.size < 2 ^ 63
  go (Ok asked) at is = answer asked (is_some (visible_text asked.part.key.digest s.visible))
      (part_answer true s.quota s.moment asked.part s.uploads) at is
  go (Err refusal) at is = absurd (cc)
