-- Digests of which each stands once.
use Rattle.std.specs.Prelude.{◌≡◌, false, List, [], ◌∷◌}
use Rattle.std.specs.List.{list_any}
use Rattle.digest.specs.declared.Digest.{Digest}
use Rattle.digest.specs.Naming.{same_digest}

abbrev pub IsEachOnce : List Digest → Type 0
IsEachOnce [] = Unit {0}
IsEachOnce (d ∷ ds) = (list_any (same_digest d) ds ≡ false) × IsEachOnce ds
