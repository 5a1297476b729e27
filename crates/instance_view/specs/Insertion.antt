-- For the code alone: no promise speaks of it.
use Rattle.std.specs.Prelude.{ℕ, ◌-◌, List, ◌∷◌, length, take, Option, Some, None}
use Rattle.digest.specs.declared.Digest.{Digest}
use Rattle.instance_view.specs.Visible.{Blob}

-- a new pair goes first; with it there are at most as many as the limit, so the last may have to go
abbrev pub visible_after_insertion : ℕ → Digest → List ℕ → List Blob → List Blob
visible_after_insertion limit d text visible = (d, text) ∷ take (limit - 1) visible

-- how long the text of a pair is, and 0 for none
abbrev pub text_length : Option Blob → ℕ
text_length None = 0
text_length (Some b) = length b.1
