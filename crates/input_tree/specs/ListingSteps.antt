-- For the code alone: no promise speaks of it.
use Rattle.std.specs.Prelude.{◌≡◌, ◌≤◌, true, ℕ, List, [], None, length, map, drop, unwrap_or}
use Rattle.std.specs.List.{list_any}
use Rattle.std.specs.declared.alloc.Global.{Global}
use Rattle.std.specs.declared.vec.Vec.{Vec}
use Rattle.digest.specs.declared.Digest.{Digest}
use Rattle.digest.specs.Naming.{same_digest}
use Rattle.input_tree.specs.Listing.{Lookup, children}

-- none of the digests is one of a directory
abbrev pub AreNone : Lookup → List Digest → Type 0
AreNone look ds = (d : Digest) → list_any (same_digest d) ds ≡ true → children look d ≡ None

-- what is in the directory of each digest; nothing where it has none
abbrev pub children_of_each : Lookup → List Digest → List (List Digest)
children_of_each look ds = map (λ d. unwrap_or (children look d) []) ds

-- lists have what is in each directory of a list from a place on
abbrev pub AreDue : Lookup → ℕ → List Digest → List (Vec Digest Global) → Type 0
AreDue look place ds due =
    (place ≤ length ds) × (children_of_each look (drop place ds) ≡ map (λ v. v.items) due)
