-- How often GetTree looks for digests, and how many bytes of texts it reads.
use Rattle.std.specs.Prelude.{ℕ, ◌+◌, ◌*◌, zero, suc, List, [], ◌∷◌, ◌++◌, length, slice_get, unwrap_or}
use Rattle.std.specs.Option.{option_map_or}
use Rattle.digest.specs.declared.Digest.{Digest}
use Rattle.input_tree.specs.Listing.{Lookup, children, tree_list, with_children}
use Rattle.input_tree.specs.Pages.{digests_of, text_or_none}
use Rattle.input_tree.specs.declared.listing.TheConstants.{MOST_DIRECTORIES}

-- how many bytes the texts of digests have together
abbrev pub texts_length : Lookup → List Digest → ℕ
texts_length look [] = 0
texts_length look (d ∷ ds) = length (text_or_none look d) + texts_length look ds

-- what the directories of a list name, from a place on, for at most so many directories
unfoldable pub named_along : ℕ → Lookup → List Digest → ℕ → List Digest
named_along zero look ds place = []
named_along (suc most) look ds place =
    option_map_or (λ d. unwrap_or (children look d) []
    ++ named_along most look (with_children look ds d) (place + 1))
    (slice_get ds place) []

-- the root, and then what the directories of its list name, in order and with repeats
abbrev pub named_in_tree : Lookup → Digest → List Digest
named_in_tree look root = root ∷ named_along MOST_DIRECTORIES look (root ∷ []) 0

-- each that is named is looked for twice at most, and once more for a page where it is listed
abbrev pub tree_looks : Lookup → Digest → ℕ
tree_looks look root =
    2 * length (named_in_tree look root) + length (digests_of (tree_list look root))
