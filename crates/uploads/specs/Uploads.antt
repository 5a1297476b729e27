-- The unfinished uploads of an instance, as a plain list.
use Rattle.std.specs.Prelude.{ℕ, ◌+◌, ◌-◌, ◌≤◌, Bool, ◌&&◌, nat_eq, nat_lt, if◌then◌else◌, List, [], ◌∷◌, length, Option, Some, None}
use Rattle.std.specs.List.{filter}
use Rattle.std.specs.Map.{lookup, remove_entry}
use lib.Pointwise.{pointwise}
use Rattle.digest.specs.declared.Digest.{Digest}
use Rattle.digest.specs.Naming.{same_digest}
use Rattle.uploads.specs.declared.steps.TheConstants.{MOST_UPLOADS}
use Rattle.uploads.specs.declared.table.TheConstants.{UPLOAD_AGE}

-- what names an upload: its uuid, and the digest that is to name its text
pub record KeyValue : Type 0 where
  pub uuid : List ℕ
  pub digest : Digest

-- the text so far, and the moment of the last write, in milliseconds
pub record UploadValue : Type 0 where
  pub text : List ℕ
  pub written : ℕ

-- uploads in the order in which they began
abbrev pub UploadList : Type 0
UploadList = List (KeyValue × UploadValue)

abbrev pub same_upload : KeyValue → KeyValue → Bool
same_upload a b = pointwise nat_eq a.uuid b.uuid && same_digest a.digest b.digest

abbrev pub upload_at : KeyValue → UploadList → Option UploadValue
upload_at key uploads = lookup (same_upload key) uploads

-- an upload that is there keeps its place, a new one goes last
abbrev pub with_upload : KeyValue → UploadValue → UploadList → UploadList
with_upload key upload [] = (key, upload) ∷ []
with_upload key upload (u ∷ us) =
    if same_upload key u.0 then (u.0, upload) ∷ us else u ∷ with_upload key upload us

abbrev pub without_upload : KeyValue → UploadList → UploadList
without_upload key uploads = remove_entry (same_upload key) uploads

-- how many bytes the texts have together
abbrev pub uploads_length : UploadList → ℕ
uploads_length [] = 0
uploads_length (u ∷ us) = length u.1.text + uploads_length us

-- the text so far, and none of an upload that is not there
abbrev pub text_in : Option UploadValue → List ℕ
text_in None = []
text_in (Some upload) = upload.text

abbrev pub text_so_far : KeyValue → UploadList → List ℕ
text_so_far key uploads = text_in (upload_at key uploads)

-- whether the last write is less than UPLOAD_AGE milliseconds ago
abbrev pub is_recent : ℕ → (KeyValue × UploadValue) → Bool
is_recent moment u = nat_lt (moment - u.1.written) UPLOAD_AGE

-- those that a moment leaves
abbrev pub uploads_at : ℕ → UploadList → UploadList
uploads_at moment uploads = filter (is_recent moment) uploads

-- the limits that uploads keep
pub record AreUploadsWithin (quota : ℕ) (uploads : UploadList) : Type 0 where
  -- the texts have no more bytes together than the quota
  pub bytes : uploads_length uploads ≤ quota
  pub count : length uploads ≤ MOST_UPLOADS
