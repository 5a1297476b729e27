-- What the list of a tree's directories is, said of each directory by itself.
use Rattle.std.specs.Prelude.{◌≡◌, true, List, [], ◌∷◌, ◌++◌, is_some, unwrap_or}
use Rattle.std.specs.List.{AllByRecursion, IsDistinct, list_any}
use Rattle.digest.specs.declared.Digest.{Digest}
use Rattle.digest.specs.Naming.{same_digest}
use Rattle.input_tree.specs.Listing.{Lookup, children}

abbrev pub IsDigestListed : List Digest → Digest → Type 0
IsDigestListed ds d = list_any (same_digest d) ds ≡ true

-- the text of the digest is there, and spells a directory that is taken
abbrev pub IsDirectory : Lookup → Digest → Type 0
IsDirectory look d = is_some (children look d) ≡ true

abbrev pub children_or_none : Lookup → Digest → List Digest
children_or_none look d = unwrap_or (children look d) []

-- it is in a directory that stands before it
pub record HasParent (look : Lookup) (before : List Digest) (d : Digest) : Type 0 where
  pub parent : Digest
  pub is_before : IsDigestListed before parent
  pub is_child : IsDigestListed (children_or_none look parent) d

abbrev pub AreReached : Lookup → List Digest → List Digest → Type 0
AreReached look before [] = Unit {0}
AreReached look before (d ∷ ds) = HasParent look before d × AreReached look (before ++ d ∷ []) ds

-- each directory that is in it is listed
abbrev pub HasListed : Lookup → List Digest → Digest → Type 0
HasListed look ds d =
    AllByRecursion (λ c. IsDirectory look c → IsDigestListed ds c) (children_or_none look d)

pub record IsWholeTree (look : Lookup) (root : Digest) (ds : List Digest) : Type 0 where
  pub others : List Digest
  -- the root is first
  pub begins : ds ≡ root ∷ others
  -- each other is in a directory before it
  pub reached : AreReached look (root ∷ []) others
  -- no digest stands twice
  pub distinct : IsDistinct same_digest ds
  pub directories : AllByRecursion (IsDirectory look) ds
  -- nothing that is in a listed one is left out
  pub whole : AllByRecursion (HasListed look ds) ds
