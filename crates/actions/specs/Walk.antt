-- The walk through an input tree: each node is met after the directory that it stands in; of a
-- directory first the files, then the symbolic links, then each directory with what is in it.
use Rattle.std.specs.Prelude.{ℕ, zero, suc, ◌+◌, List, [], ◌∷◌, ◌++◌, filter, not, is_some, nat_le, Option, Some, None, Result, Ok, Err, if◌then◌else◌}
use Rattle.std.specs.List.{filter_map}
use Rattle.protobuf_wire.specs.Results.{◌>>=◌}
use Rattle.digest.specs.declared.Digest.{Digest}
use Rattle.input_tree.specs.Listing.{Lookup}
use Rattle.actions.specs.Nodes.{PlanKindValue, file, symlink, directory, PlanNodeValue, nodes_in}
use Rattle.actions.specs.declared.walking.TheConstants.{MOST_LEVELS, MOST_NODES}

-- why a tree has no plan
pub data TreeFaultValue : Type 0 where
  -- texts of these digests, in the order met
  missing : List Digest → TreeFaultValue
  bad_directory : TreeFaultValue
  too_many : TreeFaultValue
  too_deep : TreeFaultValue

abbrev pub Nodes : Type 0
Nodes = Result (List PlanNodeValue) TreeFaultValue

abbrev pub nodes_or_fault : Option (List PlanNodeValue) → Nodes
nodes_or_fault None = Err bad_directory
nodes_or_fault (Some nodes) = Ok nodes

-- the nodes of a directory; none are met where its text is not there
abbrev pub nodes_of_text : ℕ → Option (List ℕ) → Nodes
nodes_of_text level None = Ok []
nodes_of_text level (Some text) = nodes_or_fault (nodes_in level text)

abbrev pub directory_nodes : Lookup → ℕ → Digest → Nodes
directory_nodes look level d = nodes_of_text level (look d)

-- the nodes in what stands in a directory of this level; there are at most MOST_LEVELS
abbrev pub nodes_below : Lookup → ℕ → PlanKindValue → Nodes
nodes_below look level (file d is_executable) = Ok []
nodes_below look level (symlink target) = Ok []
nodes_below look level (directory d) =
    if nat_le MOST_LEVELS level then Err too_deep
    else directory_nodes look (level + 1) d

abbrev pub nodes_inside : Lookup → PlanNodeValue → Nodes
nodes_inside look n = nodes_below look n.level n.kind

-- the nodes met, where these were met, at most so many more may be, and these come next
unfoldable pub walk_along : ℕ → Lookup → List PlanNodeValue → List PlanNodeValue → Nodes
walk_along most look [] met = Ok met
walk_along zero look (n ∷ next) met = Err too_many
walk_along (suc most) look (n ∷ next) met =
    nodes_inside look n >>= (λ inside. walk_along most look (inside ++ next) (met ++ n ∷ []))

-- the nodes of a root's tree, at most MOST_NODES, in the order met
abbrev pub nodes_met : Lookup → Digest → Nodes
nodes_met look root =
    directory_nodes look 1 root >>= (λ nodes. walk_along MOST_NODES look nodes [])

-- ---- texts that are not there

abbrev pub digest_of_kind : PlanKindValue → Option Digest
digest_of_kind (file d is_executable) = Some d
digest_of_kind (symlink target) = None
digest_of_kind (directory d) = Some d

abbrev pub digest_of_node : PlanNodeValue → Option Digest
digest_of_node n = digest_of_kind n.kind

-- the digests that are met: the root's, and those of files and directories
abbrev pub digests_met : Digest → List PlanNodeValue → List Digest
digests_met root nodes = root ∷ filter_map digest_of_node nodes

-- those whose text is not there, in order, each as often as it stands
abbrev pub missing_among : Lookup → List Digest → List Digest
missing_among look ds = filter (λ d. not (is_some (look d))) ds

abbrev pub nodes_unless_missing : List PlanNodeValue → List Digest → Nodes
nodes_unless_missing nodes [] = Ok nodes
nodes_unless_missing nodes (d ∷ ds) = Err (missing (d ∷ ds))

abbrev pub plan_of : Lookup → Digest → List PlanNodeValue → Nodes
plan_of look root nodes = nodes_unless_missing nodes (missing_among look (digests_met root nodes))

-- the nodes of a root's tree, in the order met: the first fault that is met, or all that is missing
abbrev pub walk : Lookup → Digest → Nodes
walk look root = nodes_met look root >>= plan_of look root
