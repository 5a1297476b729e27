-- What an instance's entries are in a pool.
use Rattle.std.specs.Prelude.{ℕ, ◌+◌, List, [], ◌∷◌, map, Option, Some, None}
use Rattle.digest.specs.declared.Digest.{Digest}
use Rattle.blob_pool.specs.Slots.{Slots, text_at}
use Rattle.blob_pool.specs.Moves.{Holders, one_at}
use Rattle.instance_view.specs.declared.view.Seen.{Seen}
use Rattle.instance_view.specs.declared.view.Seen.TheVariants.{Empty, Text}
use Rattle.instance_view.specs.Visible.{Blob}

-- a digest, and the slot of its text
abbrev pub ViewEntry : Type 0
ViewEntry = Digest × ℕ

abbrev pub blob_in : Slots → ViewEntry → Blob
blob_in p e = (e.0, text_at p e.1)

-- the pairs that entries find in a pool
abbrev pub blobs_in : Slots → List ViewEntry → List Blob
blobs_in p entries = map (blob_in p) entries

-- how often entries hold each slot
abbrev pub entry_holders : List ViewEntry → Holders
entry_holders [] k = 0
entry_holders (e ∷ es) k = one_at e.1 k + entry_holders es k

-- how many bytes the digests of entries name together
abbrev pub sizes : List ViewEntry → ℕ
sizes [] = 0
sizes (e ∷ es) = e.0.size + sizes es

-- an instance's entries, the most recently used first, and how many of them it may have
pub record ViewValue : Type 0 where
  pub entries : List ViewEntry
  pub limit : ℕ

-- the pairs that an instance shows in a pool
abbrev pub visible_in : Slots → ViewValue → List Blob
visible_in p v = blobs_in p v.entries

-- how often an instance's entries hold each slot
abbrev pub holders : ViewValue → Holders
holders v = entry_holders v.entries

-- how many bytes the digest of an entry names, and 0 for none
abbrev pub size_of : Option ViewEntry → ℕ
size_of None = 0
size_of (Some e) = e.0.size

-- the text that is found
abbrev pub text_seen : Slots → Seen → List ℕ
text_seen p Empty = []
text_seen p (Text k) = text_at p k

-- how often it holds each slot
abbrev pub holders_seen : Seen → Holders
holders_seen Empty k = 0
holders_seen (Text s) k = one_at s k
