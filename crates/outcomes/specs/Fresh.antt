-- For the code alone: sizes of texts that are not there, digest by digest.
use Rattle.std.specs.Prelude.{ℕ, ◌+◌, List, [], ◌∷◌, is_some, if◌then◌else◌}
use Rattle.digest.specs.declared.Digest.{Digest}
use Rattle.instance_view.specs.Visible.{Blob, visible_text}

abbrev pub fresh_size : List Blob → Digest → ℕ
fresh_size visible d = if is_some (visible_text d visible) then 0 else d.size

abbrev pub fresh_sum : List Blob → List Digest → ℕ
fresh_sum visible [] = 0
fresh_sum visible (d ∷ ds) = fresh_size visible d + fresh_sum visible ds
