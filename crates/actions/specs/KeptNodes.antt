-- Directories that stand in many places, of which what is taken is kept.
use Rattle.std.specs.Prelude.{◌≡◌, List, Option, Some, IfSome}
use Rattle.std.specs.Map.{lookup}
use Rattle.digest.specs.declared.Digest.{Digest}
use Rattle.digest.specs.Naming.{same_digest}
use Rattle.input_tree.specs.Listing.{Lookup}
use Rattle.input_tree.specs.Taken.{taken_at, taken_shown}
use Rattle.input_tree.specs.declared.taken.DirectoryTaken.{DirectoryTaken}

abbrev pub IsKept : Lookup → Digest → Option DirectoryTaken → Type 0
IsKept look d kept = IfSome kept (λ taken. taken_at look d ≡ Some (Some (taken_shown taken)))

-- a table has what is taken of each directory of which it keeps anything
abbrev pub AreKept : Lookup → List (Digest × Option DirectoryTaken) → Type 0
AreKept look table = (d : Digest) → IfSome (lookup (same_digest d) table) (IsKept look d)
