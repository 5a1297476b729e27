-- The texts that a job keeps, by the numbers of their digests.
use Rattle.std.specs.Prelude.{◌≡◌, ℕ, List, length, map, Option, Some, None, unwrap_or, if◌then◌else◌}
use Rattle.std.specs.List.{position_or_len}
use Rattle.std.specs.Option.{option_or}
use Rattle.std.specs.Map.{lookup}
use Rattle.digest.specs.declared.Digest.{Digest}
use Rattle.digest.specs.Naming.{same_digest}
use Rattle.blob_pool.specs.Slots.{Slots}
use Rattle.instance_view.specs.Shown.{ViewEntry, blobs_in}
use Rattle.input_tree.specs.Listing.{Lookup}
use Rattle.execution.specs.declared.keeping.KeptText.{KeptText}
use Rattle.execution.specs.Preparing.{look_kept}

-- the number of a digest: the place of the first that is the same, or how many there are
abbrev pub digest_number : List Digest → Digest → ℕ
digest_number digests d = position_or_len (same_digest d) digests

abbrev pub kept_digests : List KeptText → List Digest
kept_digests texts = map (λ t. t.digest) texts

-- a digest that has no number gets one, and the others stay
abbrev pub GivesNumber : List (Digest × ℕ) → List (Digest × ℕ) → Digest → ℕ → Type 0
GivesNumber old new digest number =
    (d : Digest) → lookup (same_digest d) new
    ≡ option_or (lookup (same_digest d) old) (if same_digest d digest then Some number else None)

-- a table finds the number of each digest that has one
abbrev pub AreNumbers : List Digest → List (Digest × ℕ) → Type 0
AreNumbers digests table =
    (d : Digest) →
    unwrap_or (lookup (same_digest d) table) (length digests) ≡ digest_number digests d

-- what is found among entries in a pool
abbrev pub found_among : Slots → List ViewEntry → Lookup
found_among p entries d = look_kept (blobs_in p entries) d
