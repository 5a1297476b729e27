-- An upload that ends.
use Rattle.std.proofs.Common.{refl, ◌≡◌, ◌<◌, ℕ, ◌≤◌, List, length, Some, ap, arith}
use Rattle.std.specs.Prelude.{◌↔◌}
use Rattle.quota_evict.specs.declared.admission.AdmitError.{AdmitError}
use Rattle.quota_evict.specs.declared.admission.AdmitError.TheVariants as Admit
use Rattle.uploads.specs.declared.error.UploadError.{UploadError}
use Rattle.uploads.specs.declared.error.UploadError.TheVariants.{NoMemory}
use Rattle.uploads.specs.Errors.{of_admit}
use Rattle.uploads.specs.Uploads.{KeyValue, UploadValue, UploadList, upload_at, text_in, uploads_length}
use Rattle.uploads.proofs.ListLemmas.{text-short}

-- a text of an upload is never too large to be admitted
pub refused_for_memory : (quota : ℕ) (k : KeyValue) (u : UploadValue) (us : UploadList) (e : AdmitError) (r : UploadError) (text : List ℕ)
    (P : Type 0)
    → r ≡ of_admit e → upload_at k us ≡ Some u → text ≡ u.text → uploads_length us ≤ quota →
    ((e ≡ Admit.TooLarge) ↔ (P × (quota < length text))) → r ≡ NoMemory
refused_for_memory quota k u us Admit.TooLarge r text P same_fault at is fits h =
    let large = (h.0 refl).1 in
    let so_far = ap length (ap text_in at) in
    let short = text-short k us in
    let same = ap length is in
    absurd (omega arith)
refused_for_memory quota k u us Admit.NoMemory r text P same_fault at is fits h = same_fault

-- an upload whose draft came back is what it was
pub same_back : (text : List ℕ) (v u : UploadValue) → text ≡ v.text → v ≡ u → record { text = text; written = v.written } ≡ u
same_back text v u back same = rw back same
