-- Read (bytestream.proto): a range of a blob, as a function of the texts that the instance sees
-- and of the message.
use Rattle.std.specs.Prelude.{ℕ, ℤ, pos, negsuc, ◌+◌, min, nat_le, ◌==◌, if◌then◌else◌, List, length, Option, Some, None, Result, Ok, Err}
use Rattle.reapi_messages.specs.Results.{◌>>=◌}
use Rattle.reapi_messages.specs.Fields.{value_of_text}
use Rattle.reapi_messages.specs.ByteStream.{read_request_of}
use Rattle.rpc.specs.declared.refusal.Refusal.{Refusal}
use Rattle.rpc.specs.declared.refusal.Refusal.TheVariants.{NegativeLimit, BlobNotFound, OffsetOutOfRange}
use Rattle.digest.specs.declared.Digest.{Digest}
use Rattle.instance_view.specs.Visible.{Blob, visible_text, visible_after_use}
use Rattle.cas_service.specs.Requests.{message_or_refusal, instance_check}
use Rattle.resource_names.specs.Names.{read_name}
use Rattle.bytestream.specs.declared.reading.ReadAsked.{ReadAsked}
use Rattle.bytestream.specs.Refusals.{name_or_refusal}

-- a range of a text: the bytes from one place until before another
pub record SourceValue : Type 0 where
  pub digest : Digest
  pub text : List ℕ
  pub from : ℕ
  pub until : ℕ

abbrev pub limit_of : ℤ → Result ℕ Refusal
limit_of (pos n) = Ok n
limit_of (negsuc n) = Err NegativeLimit

-- what a request asks for, or its refusal
unfoldable pub read_asked : List ℕ → List ℕ → Result ReadAsked Refusal
read_asked own message = do
  request ← message_or_refusal (value_of_text read_request_of message)
  name ← name_or_refusal (read_name request.resource_name)
  _ ← instance_check own name.instance
  limit ← limit_of request.read_limit
  Ok (record { digest = name.digest; offset = request.read_offset; limit = limit })

-- a place in a text of this size, or at its end
abbrev pub offset_check : ℤ → ℕ → Result ℕ Refusal
offset_check (pos n) size = if nat_le n size then Ok n else Err OffsetOutOfRange
offset_check (negsuc n) size = Err OffsetOutOfRange

-- where a range ends; the limit 0 is none
abbrev pub until_of : ℕ → ℕ → ℕ → ℕ
until_of limit from size = if limit == 0 then size else min size (from + limit)

-- the range that is asked for of a text that is seen
abbrev pub range_asked : ReadAsked → Option (List ℕ) → Result SourceValue Refusal
range_asked asked None = Err BlobNotFound
range_asked asked (Some text) = do
  from ← offset_check asked.offset (length text)
  Ok (record {
    digest = asked.digest;
    text = text;
    from = from;
    until = until_of asked.limit from (length text);
  })

abbrev pub read_answer : List ℕ → List Blob → List ℕ → Result SourceValue Refusal
read_answer own visible message =
    read_asked own message >>= λ asked. range_asked asked (visible_text asked.digest visible)

abbrev pub after_asking : Result ReadAsked Refusal → List Blob → List Blob
after_asking (Ok asked) visible = visible_after_use asked.digest visible
after_asking (Err refusal) visible = visible

-- the blob that is asked for is used, where it is there, whatever its range
abbrev pub after_read : List ℕ → List ℕ → List Blob → List Blob
after_read own message visible = after_asking (read_asked own message) visible
