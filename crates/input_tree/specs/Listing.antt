-- The directories of a tree, as GetTree lists them (remote_execution.proto,
-- ContentAddressableStorage).
use Rattle.std.specs.Prelude.{ℕ, ◌+◌, zero, suc, List, [], ◌∷◌, ◌++◌, Option, Some, None, Result, Ok, Err, is_some, slice_get, unwrap_or, if◌then◌else◌}
use Rattle.std.specs.List.{list_any}
use Rattle.std.specs.Option.{option_map_or}
use Rattle.digest.specs.declared.Digest.{Digest}
use Rattle.digest.specs.Naming.{same_digest}
pub use Rattle.instance_view.specs.Texts.{Lookup}
use Rattle.input_tree.specs.Directories.{children_in}
use Rattle.input_tree.specs.declared.error.TreeRefusal.{TreeRefusal}
use Rattle.input_tree.specs.declared.error.TreeRefusal.TheVariants.{NotFound, BadDirectory, TooMany}
use Rattle.input_tree.specs.declared.listing.TheConstants.{MOST_DIRECTORIES}

abbrev pub children_of_text : Option (List ℕ) → Option (List Digest)
children_of_text None = None
children_of_text (Some text) = children_in text

-- the directories in the directory of a digest; none where it is not there or no directory
abbrev pub children : Lookup → Digest → Option (List Digest)
children look d = children_of_text (look d)

-- a directory that is not listed yet goes last
abbrev pub with_listed : Lookup → List Digest → Digest → List Digest
with_listed look ds d =
    if is_some (children look d) then (if list_any (same_digest d) ds then ds else ds ++ d ∷ [])
    else ds

abbrev pub with_all_listed : Lookup → List Digest → List Digest → List Digest
with_all_listed look ds [] = ds
with_all_listed look ds (c ∷ cs) = with_all_listed look (with_listed look ds c) cs

-- the list with what is in the directory of a digest
abbrev pub with_children : Lookup → List Digest → Digest → List Digest
with_children look ds d = with_all_listed look ds (unwrap_or (children look d) [])

-- along the list from a place on, for at most so many directories
unfoldable pub listed_along : ℕ → Lookup → List Digest → ℕ → Result (List Digest) TreeRefusal
listed_along zero look ds place = if is_some (slice_get ds place) then Err TooMany else Ok ds
listed_along (suc most) look ds place =
    option_map_or (λ d. listed_along most look (with_children look ds d) (place + 1))
    (slice_get ds place) (Ok ds)

abbrev pub listed_from : ℕ → Lookup → Digest → Option (List ℕ) → Result (List Digest) TreeRefusal
listed_from most look root None = Err NotFound
listed_from most look root (Some text) =
    if is_some (children_in text) then listed_along most look (root ∷ []) 0 else Err BadDirectory

-- the list begins with the root; going along it, each directory that a listed one has goes last,
-- unless it is listed
abbrev pub tree_list : Lookup → Digest → Result (List Digest) TreeRefusal
tree_list look root = listed_from MOST_DIRECTORIES look root (look root)
