-- For the code alone: no promise speaks of it.
use Rattle.rpc.specs.declared.refusal.Refusal.TheVariants.{WrongOffset, DigestDoesNotMatch, TooManyUploads, QuotaExceeded}
use Rattle.cas_service.specs.declared.error.CallError.{CallError}
use Rattle.cas_service.specs.declared.error.CallError.TheVariants.{Refused, NoMemory}
use Rattle.resource_names.specs.declared.name.NameError.TheVariants.{Hash, Size}
use Rattle.uploads.specs.declared.error.UploadError.{UploadError}
use Rattle.uploads.specs.declared.error.UploadError.TheVariants as Upload

abbrev pub upload_error : UploadError → CallError
upload_error Upload.Offset = Refused WrongOffset
upload_error Upload.Size = Refused DigestDoesNotMatch
upload_error Upload.Hash = Refused DigestDoesNotMatch
upload_error Upload.TooMany = Refused TooManyUploads
upload_error Upload.OverQuota = Refused QuotaExceeded
upload_error Upload.NoMemory = NoMemory
