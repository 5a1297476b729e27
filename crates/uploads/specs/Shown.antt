-- What the code's own types stand for.
use Rattle.std.specs.Prelude.{◌≡◌, false, length, List}
use Rattle.std.specs.List.{AllByRecursion}
use Rattle.uploads.specs.declared.key.UploadKey.{UploadKey}
use Rattle.uploads.specs.declared.table.Upload.{Upload}
use Rattle.uploads.specs.declared.steps.Piece.{Piece}
use Rattle.uploads.specs.Uploads.{KeyValue, UploadValue}
use Rattle.uploads.specs.Writing.{PieceValue}

abbrev pub key_shown : UploadKey → KeyValue
key_shown key = record { uuid = key.uuid.bytes; digest = key.digest }

abbrev pub upload_shown : Upload → UploadValue
upload_shown upload = record { text = upload.draft.text; written = upload.written }

abbrev pub entry_shown : UploadKey × Upload → KeyValue × UploadValue
entry_shown e = (key_shown e.0, upload_shown e.1)

abbrev pub piece_shown : Piece → PieceValue
piece_shown piece = record { offset = piece.offset; bytes = piece.bytes.now }

-- a text whose hash was ended has all its bytes
pub record IsWhole (e : UploadKey × Upload) : Type 0 where
  pub whole : e.1.draft.is_open ≡ false → length e.1.draft.text ≡ e.0.digest.size

abbrev pub AreWhole : List (UploadKey × Upload) → Type 0
AreWhole es = AllByRecursion IsWhole es
