-- What faults of names and uploads are to a call.
use Rattle.std.specs.Prelude.{Result, Ok, Err}
use Rattle.rpc.specs.declared.refusal.Refusal.{Refusal}
use Rattle.rpc.specs.declared.refusal.Refusal.TheVariants.{BadResourceName, UnsupportedCompressor, BadDigest, WrongOffset, DigestDoesNotMatch, TooManyUploads, QuotaExceeded}
use Rattle.cas_service.specs.declared.error.CallError.TheVariants.{NoMemory}
use Rattle.resource_names.specs.declared.name.NameError.{NameError}
use Rattle.resource_names.specs.declared.name.NameError.TheVariants.{Form, Hash, Size, Compressed}
use Rattle.uploads.specs.declared.error.UploadError.{UploadError}
use Rattle.uploads.specs.declared.error.UploadError.TheVariants as Upload

abbrev pub name_refusal : NameError → Refusal
name_refusal Form = BadResourceName
name_refusal Hash = BadDigest
name_refusal Size = BadDigest
name_refusal Compressed = UnsupportedCompressor

-- a name, or the refusal of a text that is none
abbrev pub name_or_refusal : {A : Type 0} → Result A NameError → Result A Refusal
name_or_refusal (Ok name) = Ok name
name_or_refusal (Err e) = Err (name_refusal e)

-- the same of an answer's meaning, in which no memory is refused
abbrev pub upload_meaning : Result Unit UploadError → Result Unit Refusal
upload_meaning (Ok _) = Ok tt
upload_meaning (Err Upload.Offset) = Err WrongOffset
upload_meaning (Err Upload.Size) = Err DigestDoesNotMatch
upload_meaning (Err Upload.Hash) = Err DigestDoesNotMatch
upload_meaning (Err Upload.TooMany) = Err TooManyUploads
upload_meaning (Err Upload.OverQuota) = Err QuotaExceeded
upload_meaning (Err Upload.NoMemory) = Ok tt
