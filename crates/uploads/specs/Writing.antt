-- What a piece of an upload is answered, and what becomes of the uploads (bytestream.proto,
-- `Write`).
use Rattle.std.specs.Prelude.{◌≡◌, ℕ, ℤ, pos, negsuc, ◌+◌, Bool, false, ◌&&◌, ◌==◌, not, nat_le, nat_lt, is_some, if◌then◌else◌, List, ◌++◌, length, Result, Ok, Err}
use Rattle.digest.specs.Naming.{is_digest_of}
use Rattle.uploads.specs.declared.error.UploadError.{UploadError}
use Rattle.uploads.specs.declared.error.UploadError.TheVariants.{Offset, Size, Hash, TooMany, OverQuota, NoMemory}
use Rattle.uploads.specs.declared.steps.TheConstants.{MOST_UPLOADS}
use Rattle.uploads.specs.Uploads.{KeyValue, UploadList, upload_at, with_upload, without_upload, text_so_far, uploads_length}

-- where a piece begins, and its bytes
pub record PieceValue : Type 0 where
  pub offset : ℤ
  pub bytes : List ℕ

abbrev pub is_place : ℤ → ℕ → Bool
is_place (pos n) place = n == place
is_place (negsuc n) place = false

-- a step that may be refused, and then another
abbrev pub if_ok : Result Unit UploadError → Result Unit UploadError → Result Unit UploadError
if_ok (Ok _) next = next
if_ok (Err e) next = Err e

-- a piece begins where the text so far ends, does not bring it past its size, nor all uploads past
-- the quota
abbrev pub piece_answer : ℕ → KeyValue → PieceValue → UploadList → Result Unit UploadError
piece_answer quota key piece uploads =
    if not (is_place piece.offset (length (text_so_far key uploads))) then Err Offset
    else (if nat_lt key.digest.size (length (text_so_far key uploads) + length piece.bytes)
    then Err Size
    else (if nat_lt quota (uploads_length uploads + length piece.bytes) then Err OverQuota
    else Ok tt))

-- an upload is no larger than the quota, and there are MOST_UPLOADS at most
abbrev pub may_begin : ℕ → KeyValue → UploadList → Result Unit UploadError
may_begin quota key uploads =
    if nat_lt quota key.digest.size then Err OverQuota
    else (if not (is_some (upload_at key uploads)) && nat_le MOST_UPLOADS (length uploads)
    then Err TooMany else Ok tt)

-- the first piece of a call, of an upload that is there or is not
abbrev pub begin_answer : ℕ → KeyValue → PieceValue → UploadList → Result Unit UploadError
begin_answer quota key piece uploads =
    if_ok (may_begin quota key uploads) (piece_answer quota key piece uploads)

-- a later piece of a call, whose upload may be gone
abbrev pub append_answer : ℕ → KeyValue → PieceValue → UploadList → Result Unit UploadError
append_answer quota key piece uploads =
    if is_some (upload_at key uploads) then piece_answer quota key piece uploads else Err Offset

-- a piece of a call, the first or a later one
abbrev pub call_answer : Bool → ℕ → KeyValue → PieceValue → UploadList → Result Unit UploadError
call_answer first quota key piece uploads =
    if first then begin_answer quota key piece uploads else append_answer quota key piece uploads

-- the uploads after a piece that was answered so: written at this moment, forgotten where it passed
-- its size, and as they were at any other refusal and for want of memory
abbrev pub after_piece : ℕ → KeyValue → PieceValue → Result Unit UploadError → UploadList →
    UploadList
after_piece moment key piece (Ok _) uploads =
    with_upload key
    (record { text = text_so_far key uploads ++ piece.bytes; written = moment }) uploads
after_piece moment key piece (Err Size) uploads = without_upload key uploads
after_piece moment key piece (Err e) uploads = uploads

-- an upload ends well where its digest names its text
abbrev pub finish_answer : KeyValue → UploadList → Result Unit UploadError
finish_answer key uploads =
    if is_digest_of key.digest (text_so_far key uploads) then Ok tt else Err Hash

-- it is then forgotten, and stays for want of memory alone
abbrev pub after_finish : KeyValue → Result Unit UploadError → UploadList → UploadList
after_finish key (Err NoMemory) uploads = uploads
after_finish key r uploads = without_upload key uploads

-- what was answered is the meaning, unless memory ran out
abbrev pub Answers : Result Unit UploadError → Result Unit UploadError → Type 0
Answers (Err NoMemory) meaning = Unit {0}
Answers r meaning = r ≡ meaning
