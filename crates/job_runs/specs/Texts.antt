-- The texts of a task, by their numbers.
use Rattle.std.specs.Prelude.{ℕ, List, [], map, slice_get, Option, Some, None, option_map, unwrap_or}
use Rattle.digest.specs.declared.Digest.{Digest}
use Rattle.blob_pool.specs.Slots.{Slots}
use Rattle.instance_view.specs.Visible.{Blob}
use Rattle.instance_view.specs.Shown.{blobs_in}
use Rattle.execution.specs.declared.keeping.KeptText.{KeptText}
use Rattle.execution.specs.Keeping.{kept_entries}
use Rattle.execution.specs.Numbers.{digest_number}

abbrev pub blob_digests : List Blob → List Digest
blob_digests texts = map (λ b. b.0) texts

-- the number of the text of a digest
abbrev pub text_number : List Blob → Digest → ℕ
text_number texts d = digest_number (blob_digests texts) d

-- the text of a number: the empty one beyond them all
abbrev pub numbered_text : List Blob → ℕ → List ℕ
numbered_text texts number = unwrap_or (option_map (λ b. b.1) (slice_get texts number)) []

-- ---- of texts that are kept in a pool

-- the texts that are lent, which are none where no pool is
abbrev pub lent_in : Option Slots → List KeptText → List Blob
lent_in None texts = []
lent_in (Some p) texts = blobs_in p (kept_entries texts)
