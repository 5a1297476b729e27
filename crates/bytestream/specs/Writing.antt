-- Write (bytestream.proto): what each message of a call is answered, and what it does to the
-- instance's texts and unfinished uploads.
use Rattle.std.specs.Prelude.{◌≡◌, ◌⊎◌, ℕ, pos, Bool, true, false, ◌||◌, ◌==◌, is_some, if◌then◌else◌, List, length, Option, Some, None, Result, Ok, Err}
use Rattle.std.specs.Str.{bytes_eq}
use Rattle.reapi_messages.specs.Results.{◌>>=◌}
use Rattle.reapi_messages.specs.Fields.{value_of_text}
use Rattle.reapi_messages.specs.Parts.{text_for}
use Rattle.reapi_messages.specs.ByteStream.{write_request_of, write_response_records}
use Rattle.rpc.specs.declared.refusal.Refusal.{Refusal}
use Rattle.rpc.specs.declared.refusal.Refusal.TheVariants.{BadResourceName}
use Rattle.instance_view.specs.Visible.{Blob, visible_text, visible_after_use}
use Rattle.cas_service.specs.Admission.{visible_after_admission}
use Rattle.cas_service.specs.Requests.{message_or_refusal, instance_check}
use Rattle.resource_names.specs.Names.{write_name}
use Rattle.uploads.specs.declared.error.UploadError.{UploadError}
use Rattle.uploads.specs.Uploads.{KeyValue, UploadList, without_upload, text_so_far}
use Rattle.uploads.specs.Writing.{PieceValue, call_answer, finish_answer, after_piece}
use Rattle.bytestream.specs.Refusals.{name_or_refusal, upload_meaning}
use Rattle.bytestream.specs.Querying.{key_of_name}

-- a call in course: the text of its name, and the upload that it names
pub record OpenWriteValue : Type 0 where
  pub name : List ℕ
  pub key : KeyValue

-- a message's piece of an upload, and whether it is the last
pub record PartValue : Type 0 where
  pub key : KeyValue
  pub piece : PieceValue
  pub is_last : Bool

-- what is answered to a message: nothing yet, or the reply's message
pub data WrittenValue : Type 0 where
  Goes : OpenWriteValue → WrittenValue
  Answered : List ℕ → WrittenValue

-- the texts and the unfinished uploads of an instance
pub record WriteState : Type 0 where
  pub visible : List Blob
  pub uploads : UploadList

abbrev pub write_state_with : List Blob → UploadList → WriteState
write_state_with visible uploads = record { visible = visible; uploads = uploads }

pub record FirstAsked : Type 0 where
  pub name : List ℕ
  pub part : PartValue

-- what the first message of a call asks for, or its refusal
unfoldable pub first_asked : List ℕ → List ℕ → Result FirstAsked Refusal
first_asked own message = do
  request ← message_or_refusal (value_of_text write_request_of message)
  name ← name_or_refusal (write_name request.resource_name)
  _ ← instance_check own name.instance
  Ok (record {
    name = request.resource_name;
    part = record {
      key = key_of_name name;
      piece = record { offset = request.write_offset; bytes = request.content };
      is_last = request.finish_write;
    };
  })

-- a later message names the same, byte by byte, or nothing
abbrev pub same_name : List ℕ → List ℕ → Result Unit Refusal
same_name name again =
    if length again == 0 || bytes_eq again name then Ok tt else Err BadResourceName

-- what a later message asks for, or its refusal
unfoldable pub next_asked : OpenWriteValue → List ℕ → Result PartValue Refusal
next_asked call message = do
  request ← message_or_refusal (value_of_text write_request_of message)
  _ ← same_name call.name request.resource_name
  Ok (record {
    key = call.key;
    piece = record { offset = request.write_offset; bytes = request.content };
    is_last = request.finish_write;
  })

-- what a piece is answered, in the first message of a call or a later one
abbrev pub part_outcome : Bool → ℕ → PartValue → UploadList → Result Unit UploadError
part_outcome first quota part uploads = call_answer first quota part.key part.piece uploads

-- whether an upload whose piece was taken is complete
abbrev pub end_answer : PartValue → UploadList → Result Bool Refusal
end_answer part uploads =
    if part.is_last then (upload_meaning (finish_answer part.key uploads) >>= λ _. Ok true)
    else Ok false

-- whether a part completes its upload, or its refusal
abbrev pub part_answer : Bool → ℕ → ℕ → PartValue → UploadList → Result Bool Refusal
part_answer first quota moment part uploads =
    upload_meaning (part_outcome first quota part uploads)
    >>= λ _. end_answer part (after_piece moment part.key part.piece (Ok tt) uploads)

-- a text that its digest names is admitted; the upload is forgotten
abbrev pub after_last_part : ℕ → ℕ → KeyValue → Result Unit UploadError → WriteState → WriteState
after_last_part limit quota key (Ok _) s = record {
  visible = visible_after_admission limit quota key.digest (text_so_far key s.uploads) s.visible;
  uploads = without_upload key s.uploads;
}
after_last_part limit quota key (Err e) s = record s { uploads = without_upload key s.uploads }

abbrev pub after_end : ℕ → ℕ → PartValue → WriteState → WriteState
after_end limit quota part s =
    if part.is_last then after_last_part limit quota part.key (finish_answer part.key s.uploads) s
    else s

abbrev pub after_taking : ℕ → ℕ → ℕ → PartValue → Result Unit UploadError → WriteState → WriteState
after_taking limit quota moment part (Ok u) s =
    after_end limit quota part
    (record s { uploads = after_piece moment part.key part.piece (Ok u) s.uploads })
after_taking limit quota moment part (Err e) s =
    record s { uploads = after_piece moment part.key part.piece (Err e) s.uploads }

-- the state after a part, refused or not
abbrev pub after_part : Bool → ℕ → ℕ → ℕ → PartValue → WriteState → WriteState
after_part first limit quota moment part s =
    after_taking limit quota moment part (part_outcome first quota part s.uploads) s

-- what want of memory leaves of the uploads: all as they were, or with a piece that was taken and
-- not ended
abbrev pub IsOldOrTaken : Bool → ℕ → ℕ → PartValue → UploadList → UploadList → Type 0
IsOldOrTaken first quota moment part old new =
    (new ≡ old)
    ⊎ ((part_outcome first quota part old ≡ Ok tt)
    × (new ≡ after_piece moment part.key part.piece (Ok tt) old))

-- the same of a call's first message; no piece is taken of a blob that is seen
abbrev pub IsFirstOldOrTaken : ℕ → ℕ → Result FirstAsked Refusal → WriteState → UploadList → Type 0
IsFirstOldOrTaken quota moment (Ok asked) s new =
    (new ≡ s.uploads)
    ⊎ ((visible_text asked.part.key.digest s.visible ≡ None)
    × IsOldOrTaken true quota moment asked.part s.uploads new)
IsFirstOldOrTaken quota moment (Err refusal) s new = new ≡ s.uploads

-- and of a later one
abbrev pub IsNextOldOrTaken : ℕ → ℕ → Result PartValue Refusal → UploadList → UploadList → Type 0
IsNextOldOrTaken quota moment (Ok part) old new = IsOldOrTaken false quota moment part old new
IsNextOldOrTaken quota moment (Err refusal) old new = new ≡ old

abbrev pub write_reply : ℕ → List ℕ
write_reply committed = text_for write_response_records (record { committed_size = pos committed })

abbrev pub reply_first : FirstAsked → Bool → WrittenValue
reply_first asked true = Answered (write_reply asked.part.key.digest.size)
reply_first asked false = Goes (record { name = asked.name; key = asked.part.key })

-- a blob that is seen is complete at once
abbrev pub first_part_answer : ℕ → ℕ → FirstAsked → WriteState → Result WrittenValue Refusal
first_part_answer quota moment asked s =
    if is_some (visible_text asked.part.key.digest s.visible) then Ok (reply_first asked true)
    else (part_answer true quota moment asked.part s.uploads >>=
    λ complete. Ok (reply_first asked complete))

abbrev pub first_answer : List ℕ → ℕ → ℕ → WriteState → List ℕ → Result WrittenValue Refusal
first_answer own quota moment s message =
    first_asked own message >>= λ asked. first_part_answer quota moment asked s

-- and it is used
abbrev pub after_first_part : ℕ → ℕ → ℕ → FirstAsked → WriteState → WriteState
after_first_part limit quota moment asked s =
    if is_some (visible_text asked.part.key.digest s.visible)
    then record s { visible = visible_after_use asked.part.key.digest s.visible }
    else after_part true limit quota moment asked.part s

abbrev pub after_first_asked : ℕ → ℕ → ℕ → Result FirstAsked Refusal → WriteState → WriteState
after_first_asked limit quota moment (Ok asked) s = after_first_part limit quota moment asked s
after_first_asked limit quota moment (Err refusal) s = s

abbrev pub after_first : List ℕ → ℕ → ℕ → ℕ → List ℕ → WriteState → WriteState
after_first own limit quota moment message s =
    after_first_asked limit quota moment (first_asked own message) s

abbrev pub reply_next : PartValue → Bool → Option (List ℕ)
reply_next part true = Some (write_reply part.key.digest.size)
reply_next part false = None

-- the reply's message, where the call is complete
abbrev pub next_answer : OpenWriteValue → ℕ → ℕ → UploadList → List ℕ →
    Result (Option (List ℕ)) Refusal
next_answer call quota moment uploads message = do
  part ← next_asked call message
  complete ← part_answer false quota moment part uploads
  Ok (reply_next part complete)

abbrev pub after_next_asked : ℕ → ℕ → ℕ → Result PartValue Refusal → WriteState → WriteState
after_next_asked limit quota moment (Ok part) s = after_part false limit quota moment part s
after_next_asked limit quota moment (Err refusal) s = s

abbrev pub after_next : OpenWriteValue → ℕ → ℕ → ℕ → List ℕ → WriteState → WriteState
after_next call limit quota moment message s =
    after_next_asked limit quota moment (next_asked call message) s

-- a request that ends without its last piece is answered with what is there
abbrev pub unfinished_reply : KeyValue → UploadList → List ℕ
unfinished_reply key uploads = write_reply (length (text_so_far key uploads))
