-- Uses of an instance's texts, one after another.
use Rattle.std.specs.Prelude.{◌≡◌, true, List, [], ◌∷◌, if◌then◌else◌}
use Rattle.std.specs.List.{list_any}
use Rattle.digest.specs.declared.Digest.{Digest}
use Rattle.digest.specs.Naming.{same_digest}
use Rattle.instance_view.specs.Visible.{Blob, visible_after_use}

abbrev pub visible_after_uses : List Digest → List Blob → List Blob
visible_after_uses [] visible = visible
visible_after_uses (d ∷ ds) visible = visible_after_uses ds (visible_after_use d visible)

-- the last occurrence of each digest, in order
abbrev pub last_uses : List Digest → List Digest
last_uses [] = []
last_uses (d ∷ ds) = if list_any (same_digest d) ds then last_uses ds else d ∷ last_uses ds

-- each of some digests stands among others
abbrev pub AreAmong : List Digest → List Digest → Type 0
AreAmong [] ds = Unit {0}
AreAmong (b ∷ bs) ds = (list_any (same_digest b) ds ≡ true) × AreAmong bs ds
