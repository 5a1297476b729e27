-- The message Tree of an output directory (remote_execution.proto, Directory and Tree).
use Rattle.std.specs.Prelude.{ℕ, ◌+◌, Bool, true, false, List, [], ◌∷◌, ◌++◌, length, nat_eq, nat_le, nat_lt, ◌==◌, ◌&&◌, Some, if◌then◌else◌}
use Rattle.std.specs.List.{list_all, list_any}
use lib.Pointwise.{pointwise}
use Rattle.protobuf_wire.specs.Parts.{text_for}
use Rattle.digest.specs.declared.Digest.{Digest}
use Rattle.tree_messages.specs.Directories.{DirectoryNodeValue, DirectoryValue, FileNodeValue, directory_records, tree_records}
use Rattle.input_tree.specs.Directories.{is_directory}
use Rattle.actions.specs.declared.walking.TheConstants.{MOST_LEVELS, MOST_NODES}
use Rattle.outcomes.specs.Naming.{written_like}
use Rattle.run_calls.specs.Outcomes.{NodeKindValue, OutputNodeValue, as_directory, as_file}

abbrev pub directory_text : DirectoryValue → List ℕ
directory_text v = text_for directory_records v

-- ---- directories

abbrev pub file_node : Digest → OutputNodeValue → NodeKindValue → List FileNodeValue
file_node like n (as_file text is_executable) = record {
  name = n.name;
  digest = Some (written_like like text);
  is_executable = is_executable;
} ∷ []
file_node like n as_directory = []

-- a directory of a name, by its text
abbrev pub directory_node : Digest → List ℕ → DirectoryValue → DirectoryNodeValue
directory_node like name v =
    record { name = name; digest = Some (written_like like (directory_text v)) }

-- the files of a directory of this level in which these nodes go on: it ends before the first node
-- of a lower level, and nodes of higher levels stand in directories below it
abbrev pub files_at : Digest → ℕ → List OutputNodeValue → List FileNodeValue
files_at like level [] = []
files_at like level (n ∷ ns) =
    if nat_lt n.level level then []
    else if n.level == level then file_node like n n.kind ++ files_at like level ns
    else files_at like level ns

-- the directory of these files and directories
abbrev pub directory_with : List FileNodeValue → List DirectoryNodeValue → DirectoryValue
directory_with files directories =
    record { files = files; directories = directories; symlinks = [] }

abbrev pub nodes_first : NodeKindValue → DirectoryNodeValue → List DirectoryNodeValue
nodes_first (as_file text is_executable) d = []
nodes_first as_directory d = d ∷ []

-- the directories in it: what follows a directory's node, one level below it, is in that
abbrev pub directories_at : Digest → ℕ → List OutputNodeValue → List DirectoryNodeValue
directories_at like level [] = []
directories_at like level (n ∷ ns) =
    if nat_lt n.level level then []
    else if n.level == level
    then nodes_first n.kind (directory_node like n.name
    (directory_with (files_at like (level + 1) ns) (directories_at like (level + 1) ns)))
    ++ directories_at like level ns
    else directories_at like level ns

abbrev pub directory_at : Digest → ℕ → List OutputNodeValue → DirectoryValue
directory_at like level nodes =
    directory_with (files_at like level nodes) (directories_at like level nodes)

-- ---- trees

abbrev pub root_of : Digest → List OutputNodeValue → DirectoryValue
root_of like nodes = directory_at like 1 nodes

abbrev pub below_first : NodeKindValue → DirectoryValue → List DirectoryValue
below_first (as_file text is_executable) v = []
below_first as_directory v = v ∷ []

-- the directories below the root, in walk order
abbrev pub below_root : Digest → List OutputNodeValue → List DirectoryValue
below_root like [] = []
below_root like (n ∷ ns) =
    below_first n.kind (directory_at like (n.level + 1) ns) ++ below_root like ns

abbrev pub is_directory_node : NodeKindValue → Bool
is_directory_node (as_file text is_executable) = false
is_directory_node as_directory = true

abbrev pub has_text_of : DirectoryValue → DirectoryValue → Bool
has_text_of v u = pointwise nat_eq (directory_text v) (directory_text u)

-- a directory goes last, unless one of its text stands there
abbrev pub with_child : List DirectoryValue → DirectoryValue → List DirectoryValue
with_child children v =
    if list_any (has_text_of v) children then children else children ++ v ∷ []

abbrev pub with_children : List DirectoryValue → List DirectoryValue → List DirectoryValue
with_children children [] = children
with_children children (v ∷ vs) = with_children (with_child children v) vs

abbrev pub children_of : Digest → List OutputNodeValue → List DirectoryValue
children_of like nodes = with_children [] (below_root like nodes)

-- a Tree has its root, and the directories below it, each text once, in walk order
abbrev pub tree_text : Digest → List OutputNodeValue → List ℕ
tree_text like nodes = text_for tree_records (record {
  root = Some (root_of like nodes);
  children = children_of like nodes;
})

-- ---- trees that are taken

-- the level at which nodes go on behind a node: a directory's own nodes come next
abbrev pub level_behind : ℕ → NodeKindValue → ℕ
level_behind level (as_file text is_executable) = level
level_behind level as_directory = level + 1

-- behind such a level a file stands in the directory that was met last, and a directory in that or
-- in one above it
abbrev pub has_place : ℕ → ℕ → NodeKindValue → Bool
has_place last level (as_file text is_executable) = nat_le 1 level && level == last
has_place last level as_directory = nat_le 1 level && nat_le level last

-- the nodes stand in walk order
abbrev pub are_walked : ℕ → List OutputNodeValue → Bool
are_walked last [] = true
are_walked last (n ∷ ns) =
    has_place last n.level n.kind && are_walked (level_behind n.level n.kind) ns

-- no directory has a level above the highest
abbrev pub is_shallow : OutputNodeValue → Bool
is_shallow n = nat_le (level_behind n.level n.kind) MOST_LEVELS

-- they keep the order and the limits of a walk
abbrev pub keeps_walk : List OutputNodeValue → Bool
keeps_walk nodes =
    nat_le (length nodes) MOST_NODES && (list_all is_shallow nodes && are_walked 1 nodes)

-- a tree is taken where it keeps these, and its directories are taken
abbrev pub is_tree : Digest → List OutputNodeValue → Bool
is_tree like nodes =
    keeps_walk nodes &&
    (is_directory (root_of like nodes) && list_all is_directory (below_root like nodes))
