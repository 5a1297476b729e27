-- What a refused admission is to an upload.
use Rattle.quota_evict.specs.declared.admission.AdmitError.{AdmitError}
use Rattle.quota_evict.specs.declared.admission.AdmitError.TheVariants as Admit
use Rattle.uploads.specs.declared.error.UploadError.{UploadError}
use Rattle.uploads.specs.declared.error.UploadError.TheVariants.{OverQuota, NoMemory}

abbrev pub of_admit : AdmitError → UploadError
of_admit Admit.TooLarge = OverQuota
of_admit Admit.NoMemory = NoMemory
