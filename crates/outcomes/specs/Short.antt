-- Messages that are short, and digests and blobs that messages can write.
use Rattle.std.specs.Prelude.{◌≡◌, ◌<◌, ◌≤◌, ◌^◌, ℕ, List, length}
use Rattle.std.specs.List.{AllByRecursion}
use Rattle.rpc.specs.Messages.{message_length_limit}
use Rattle.digest.specs.declared.Digest.{Digest}
use Rattle.digest.specs.Text.{hash_text}
use Rattle.instance_view.specs.Visible.{Blob}

-- four bytes can write its length
abbrev pub IsShort : List ℕ → Type 0
IsShort message = length message < message_length_limit

-- a digest that messages write: its hash has at most 128 digits, and its size is below 2^63
pub record HasForm (d : Digest) : Type 0 where
  pub hash : length (hash_text d) ≤ 128
  pub size : d.size < 2 ^ 63

-- blobs of such sizes
abbrev pub HaveSizes : List Blob → Type 0
HaveSizes blobs = AllByRecursion (λ (b : Blob). b.0.size < 2 ^ 63) blobs
