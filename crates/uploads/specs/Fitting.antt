-- For the code alone: no promise speaks of it.
use Rattle.std.specs.Prelude.{ℕ, ◌+◌, ◌≤◌, List, length}
use Rattle.blob_pool.specs.declared.text.TheConstants.{MOST_BYTES}
use Rattle.uploads.specs.Uploads.{KeyValue, UploadList, text_so_far}

-- a piece leaves room for itself
pub record Fits (key : KeyValue) (bytes : List ℕ) (uploads : UploadList) : Type 0 where
  pub named : length (text_so_far key uploads) + length bytes ≤ key.digest.size
  pub short : length (text_so_far key uploads) + length bytes ≤ MOST_BYTES
