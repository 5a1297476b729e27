-- How often the texts that a job keeps hold each slot of a pool.
use Rattle.std.specs.Prelude.{List, [], ◌∷◌, map, Result, Ok, Err}
use Rattle.std.specs.declared.alloc.AllocError.{AllocError}
use Rattle.std.specs.declared.alloc.Global.{Global}
use Rattle.std.specs.declared.vec.Vec.{Vec}
use Rattle.digest.specs.declared.Digest.{Digest}
use Rattle.blob_pool.specs.Slots.{Slots, text_at}
use Rattle.blob_pool.specs.Moves.{Holders, no_holders}
use Rattle.instance_view.specs.Visible.{Blob}
use Rattle.instance_view.specs.declared.view.Seen.{Seen}
use Rattle.instance_view.specs.declared.view.Seen.TheVariants.{Empty, Text}
use Rattle.instance_view.specs.Shown.{ViewEntry, entry_holders}
use Rattle.execution.specs.declared.keeping.KeptText.{KeptText}

-- a digest, and the slot of its text
abbrev pub kept_entry : KeptText → ViewEntry
kept_entry t = (t.digest, t.text)

abbrev pub kept_entries : List KeptText → List ViewEntry
kept_entries ts = map kept_entry ts

-- nothing is held for want of memory
abbrev pub held_by : Result (Vec KeptText Global) AllocError → Holders
held_by (Ok kept) = entry_holders (kept_entries kept.items)
held_by (Err e) = no_holders

-- a text that is seen, under its digest; the empty one is not kept
abbrev pub seen_blobs : Slots → Digest → Seen → List Blob
seen_blobs p d Empty = []
seen_blobs p d (Text k) = (d, text_at p k) ∷ []
