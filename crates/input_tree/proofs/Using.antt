-- Digests that are used, one after another.
use Rattle.std.proofs.Common.{◌≡◌, ◌-◌, ◌<◌, List, [], ◌∷◌, length, take, drop, slice_index_or, ap, ◌∙◌, arith}
use Rattle.std.proofs.Math.Seq.{take-length}
use Rattle.digest.specs.declared.Digest.{Digest}
use Rattle.instance_view.specs.Visible.{Blob, visible_after_use}
use Rattle.input_tree.specs.Uses.{visible_after_uses}

-- the loop's step, where the list of the digests that come is as the code takes its first
pub used_next : (all now next : List Blob) (left : List Digest) (default : Digest) → 0 < length left → visible_after_uses left now ≡ all →
    next ≡ visible_after_use (slice_index_or left 0 default) now → visible_after_uses (take (length left - 1) (drop 1 left)) next ≡ all
used_next all now next [] default some h is = absurd (omega arith)
used_next all now next (d ∷ ds) default some h is =
    let count : length (d ∷ ds) - 1 ≡ length ds = omega arith in
    rw (count, take-length) (ap (visible_after_uses ds) is ∙ h)
